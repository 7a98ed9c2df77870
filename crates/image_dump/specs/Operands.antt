-- The operands of an instruction's text, behind its name (RISC-V unprivileged manual, version 20191213, chapter 25).
use Rattle.std.specs.Prelude.{ℕ, List, [], ◌∷◌}
use Rattle.std.specs.Fmt.{decimal, signed_decimal}
use Rattle.rv_decode.specs.declared.insn.Insn.{Insn}
use Rattle.rv_decode.specs.declared.insn.Op.{Op}
use Rattle.rv_decode.specs.declared.insn.Op.TheVariants as ops
use Rattle.rv_decode.specs.Texts.{register_name, comma, based, upper_field}
use Rattle.image_dump.specs.declared.instruction.Operands.{Operands}
use Rattle.image_dump.specs.declared.instruction.Operands.TheVariants.{Registers, Number, Load, Store, Branch, Upper, Distance, Nothing}

-- which operands the text of an instruction has, by its name
abbrev pub operands_of : Op → Operands
operands_of ops.Lui = Upper
operands_of ops.Auipc = Upper
operands_of ops.Jal = Distance
operands_of ops.Beq = Branch
operands_of ops.Bne = Branch
operands_of ops.Blt = Branch
operands_of ops.Bge = Branch
operands_of ops.Bltu = Branch
operands_of ops.Bgeu = Branch
operands_of ops.Jalr = Load
operands_of ops.Lb = Load
operands_of ops.Lh = Load
operands_of ops.Lw = Load
operands_of ops.Ld = Load
operands_of ops.Lbu = Load
operands_of ops.Lhu = Load
operands_of ops.Lwu = Load
operands_of ops.Sb = Store
operands_of ops.Sh = Store
operands_of ops.Sw = Store
operands_of ops.Sd = Store
operands_of ops.Addi = Number
operands_of ops.Slli = Number
operands_of ops.Slti = Number
operands_of ops.Sltiu = Number
operands_of ops.Xori = Number
operands_of ops.Srli = Number
operands_of ops.Srai = Number
operands_of ops.Ori = Number
operands_of ops.Andi = Number
operands_of ops.Addiw = Number
operands_of ops.Slliw = Number
operands_of ops.Srliw = Number
operands_of ops.Sraiw = Number
operands_of ops.Fence = Nothing
operands_of ops.Ecall = Nothing
operands_of ops.Ebreak = Nothing
operands_of op = Registers

-- a space and the operands
abbrev pub operands_text : Operands → Insn → List ℕ
operands_text Registers i = 32 ∷ comma (register_name i.rd) (comma (register_name i.rs1) (register_name i.rs2))
operands_text Number i = 32 ∷ comma (register_name i.rd) (comma (register_name i.rs1) (signed_decimal i.imm))
operands_text Load i = 32 ∷ comma (register_name i.rd) (based i.imm (register_name i.rs1))
operands_text Store i = 32 ∷ comma (register_name i.rs2) (based i.imm (register_name i.rs1))
operands_text Branch i = 32 ∷ comma (register_name i.rs1) (comma (register_name i.rs2) (signed_decimal i.imm))
operands_text Upper i = 32 ∷ comma (register_name i.rd) (decimal (upper_field i))
operands_text Distance i = 32 ∷ comma (register_name i.rd) (signed_decimal i.imm)
operands_text Nothing i = []
