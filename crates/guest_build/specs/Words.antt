-- The words that a line may begin with. (RISC-V unprivileged manual, version 20191213, chapters 24 and 25)
use Rattle.std.specs.Prelude.{ℕ, List, [], ◌∷◌, codes, Result, Ok, Err, if◌then◌else◌}
use Rattle.std.specs.Str.{bytes_eq}
use Rattle.rv_decode.specs.Texts.{name_of}
use Rattle.rv_decode.specs.declared.insn.Op.{Op}
use Rattle.rv_decode.specs.declared.insn.Op.TheVariants as ops
use Rattle.guest_build.specs.declared.fault.AsmKind.{AsmKind}
use Rattle.guest_build.specs.declared.fault.AsmKind.TheVariants as kinds
use Rattle.guest_build.specs.declared.word.Shape.{Shape}
use Rattle.guest_build.specs.declared.word.Shape.TheVariants as shapes
use Rattle.guest_build.specs.declared.word.Word.{Word}
use Rattle.guest_build.specs.declared.word.Word.TheVariants as words

-- a word and what it stands for
abbrev pub Entry : Type 0
Entry = List ℕ × Word

-- an instruction, by the name that its own text has
abbrev pub instruction : Op → Shape → Entry
instruction op shape = (name_of op, words.Instruction op shape)

unfoldable pub entries : List Entry
entries =
    -- Instructions
    instruction ops.Lui shapes.Lui ∷
    instruction ops.Auipc shapes.Upper ∷
    instruction ops.Jal shapes.Jump ∷
    instruction ops.Jalr shapes.Offset ∷
    instruction ops.Beq shapes.Branch ∷
    instruction ops.Bne shapes.Branch ∷
    instruction ops.Blt shapes.Branch ∷
    instruction ops.Bge shapes.Branch ∷
    instruction ops.Bltu shapes.Branch ∷
    instruction ops.Bgeu shapes.Branch ∷
    instruction ops.Lb shapes.Offset ∷
    instruction ops.Lh shapes.Offset ∷
    instruction ops.Lw shapes.Offset ∷
    instruction ops.Ld shapes.Offset ∷
    instruction ops.Lbu shapes.Offset ∷
    instruction ops.Lhu shapes.Offset ∷
    instruction ops.Lwu shapes.Offset ∷
    instruction ops.Sb shapes.Store ∷
    instruction ops.Sh shapes.Store ∷
    instruction ops.Sw shapes.Store ∷
    instruction ops.Sd shapes.Store ∷
    instruction ops.Addi shapes.Immediate ∷
    instruction ops.Slli shapes.Shift ∷
    instruction ops.Slti shapes.Immediate ∷
    instruction ops.Sltiu shapes.Immediate ∷
    instruction ops.Xori shapes.Immediate ∷
    instruction ops.Srli shapes.Shift ∷
    instruction ops.Srai shapes.Shift ∷
    instruction ops.Ori shapes.Immediate ∷
    instruction ops.Andi shapes.Immediate ∷
    instruction ops.Addiw shapes.Immediate ∷
    instruction ops.Slliw shapes.Shift ∷
    instruction ops.Srliw shapes.Shift ∷
    instruction ops.Sraiw shapes.Shift ∷
    instruction ops.Add shapes.Registers ∷
    instruction ops.Sub shapes.Registers ∷
    instruction ops.Mul shapes.Registers ∷
    instruction ops.Sll shapes.Registers ∷
    instruction ops.Mulh shapes.Registers ∷
    instruction ops.Slt shapes.Registers ∷
    instruction ops.Mulhsu shapes.Registers ∷
    instruction ops.Sltu shapes.Registers ∷
    instruction ops.Mulhu shapes.Registers ∷
    instruction ops.Xor shapes.Registers ∷
    instruction ops.Div shapes.Registers ∷
    instruction ops.Srl shapes.Registers ∷
    instruction ops.Sra shapes.Registers ∷
    instruction ops.Divu shapes.Registers ∷
    instruction ops.Or shapes.Registers ∷
    instruction ops.Rem shapes.Registers ∷
    instruction ops.And shapes.Registers ∷
    instruction ops.Remu shapes.Registers ∷
    instruction ops.Addw shapes.Registers ∷
    instruction ops.Subw shapes.Registers ∷
    instruction ops.Mulw shapes.Registers ∷
    instruction ops.Sllw shapes.Registers ∷
    instruction ops.Divw shapes.Registers ∷
    instruction ops.Srlw shapes.Registers ∷
    instruction ops.Sraw shapes.Registers ∷
    instruction ops.Divuw shapes.Registers ∷
    instruction ops.Remw shapes.Registers ∷
    instruction ops.Remuw shapes.Registers ∷
    instruction ops.Fence shapes.Bare ∷
    instruction ops.Ecall shapes.Bare ∷
    instruction ops.Ebreak shapes.Bare ∷
    -- Pseudoinstructions (table 25.2 and 25.3)
    (codes "li", words.Li) ∷
    (codes "la", words.La) ∷
    (codes "mv", words.Mv) ∷
    (codes "nop", words.Nop) ∷
    (codes "ret", words.Ret) ∷
    (codes "j", words.J) ∷
    (codes "jr", words.Jr) ∷
    (codes "beqz", words.Beqz) ∷
    (codes "bnez", words.Bnez) ∷
    (codes "call", words.Call) ∷
    -- Directives
    (codes ".text", words.Text) ∷
    (codes ".data", words.Data) ∷
    (codes ".base", words.Base) ∷
    (codes ".subsystem", words.Subsystem) ∷
    (codes ".alignment", words.Alignment) ∷
    (codes ".dword", words.Dword) ∷
    (codes ".word", words.Number 4) ∷
    (codes ".half", words.Number 2) ∷
    (codes ".byte", words.Number 1) ∷
    (codes ".zero", words.Zero) ∷
    (codes ".ascii16", words.Ascii16) ∷
    (codes ".guid", words.Guid) ∷
    []

-- what a word stands for, if it is one of these
abbrev pub entry_in : List Entry → List ℕ → Result Word AsmKind
entry_in [] text = Err kinds.Word
entry_in (entry ∷ others) text = if bytes_eq entry.0 text then Ok entry.1 else entry_in others text

unfoldable pub word_of : List ℕ → Result Word AsmKind
word_of text = entry_in entries text
