-- The assembly text of an instruction. (RISC-V unprivileged manual, version 20191213, chapter 25, table 25.1 for the
-- registers)
use Rattle.std.specs.Prelude.{ℕ, ℤ, List, [], ◌∷◌, ◌++◌, Option, Some, None, codes, slice_get}
use Rattle.std.specs.Int.{cast_unsigned, w64}
use Rattle.std.specs.Fmt.{decimal, signed_decimal}
use Rattle.rv_decode.specs.Fields.{field}
use Rattle.rv_decode.specs.Names.{format_of}
use Rattle.rv_decode.specs.declared.insn.Insn.{Insn}
use Rattle.rv_decode.specs.declared.insn.Op.{Op}
use Rattle.rv_decode.specs.declared.insn.Op.TheVariants as ops
use Rattle.rv_decode.specs.declared.table.Format.{Format}
use Rattle.rv_decode.specs.declared.table.Format.TheVariants as formats

-- the names of x0 to x31
unfoldable pub register_names : List (List ℕ)
register_names =
    codes "zero" ∷
    codes "ra" ∷
    codes "sp" ∷
    codes "gp" ∷
    codes "tp" ∷
    codes "t0" ∷
    codes "t1" ∷
    codes "t2" ∷
    codes "s0" ∷
    codes "s1" ∷
    codes "a0" ∷
    codes "a1" ∷
    codes "a2" ∷
    codes "a3" ∷
    codes "a4" ∷
    codes "a5" ∷
    codes "a6" ∷
    codes "a7" ∷
    codes "s2" ∷
    codes "s3" ∷
    codes "s4" ∷
    codes "s5" ∷
    codes "s6" ∷
    codes "s7" ∷
    codes "s8" ∷
    codes "s9" ∷
    codes "s10" ∷
    codes "s11" ∷
    codes "t3" ∷
    codes "t4" ∷
    codes "t5" ∷
    codes "t6" ∷
    []

abbrev pub or_empty : Option (List ℕ) → List ℕ
or_empty (Some text) = text
or_empty None = []

unfoldable pub register_name : ℕ → List ℕ
register_name n = or_empty (slice_get register_names n)

unfoldable pub name_of : Op → List ℕ
name_of ops.Lui = codes "lui"
name_of ops.Auipc = codes "auipc"
name_of ops.Jal = codes "jal"
name_of ops.Jalr = codes "jalr"
name_of ops.Beq = codes "beq"
name_of ops.Bne = codes "bne"
name_of ops.Blt = codes "blt"
name_of ops.Bge = codes "bge"
name_of ops.Bltu = codes "bltu"
name_of ops.Bgeu = codes "bgeu"
name_of ops.Lb = codes "lb"
name_of ops.Lh = codes "lh"
name_of ops.Lw = codes "lw"
name_of ops.Ld = codes "ld"
name_of ops.Lbu = codes "lbu"
name_of ops.Lhu = codes "lhu"
name_of ops.Lwu = codes "lwu"
name_of ops.Sb = codes "sb"
name_of ops.Sh = codes "sh"
name_of ops.Sw = codes "sw"
name_of ops.Sd = codes "sd"
name_of ops.Addi = codes "addi"
name_of ops.Slli = codes "slli"
name_of ops.Slti = codes "slti"
name_of ops.Sltiu = codes "sltiu"
name_of ops.Xori = codes "xori"
name_of ops.Srli = codes "srli"
name_of ops.Srai = codes "srai"
name_of ops.Ori = codes "ori"
name_of ops.Andi = codes "andi"
name_of ops.Addiw = codes "addiw"
name_of ops.Slliw = codes "slliw"
name_of ops.Srliw = codes "srliw"
name_of ops.Sraiw = codes "sraiw"
name_of ops.Add = codes "add"
name_of ops.Sub = codes "sub"
name_of ops.Mul = codes "mul"
name_of ops.Sll = codes "sll"
name_of ops.Mulh = codes "mulh"
name_of ops.Slt = codes "slt"
name_of ops.Mulhsu = codes "mulhsu"
name_of ops.Sltu = codes "sltu"
name_of ops.Mulhu = codes "mulhu"
name_of ops.Xor = codes "xor"
name_of ops.Div = codes "div"
name_of ops.Srl = codes "srl"
name_of ops.Sra = codes "sra"
name_of ops.Divu = codes "divu"
name_of ops.Or = codes "or"
name_of ops.Rem = codes "rem"
name_of ops.And = codes "and"
name_of ops.Remu = codes "remu"
name_of ops.Addw = codes "addw"
name_of ops.Subw = codes "subw"
name_of ops.Mulw = codes "mulw"
name_of ops.Sllw = codes "sllw"
name_of ops.Divw = codes "divw"
name_of ops.Srlw = codes "srlw"
name_of ops.Sraw = codes "sraw"
name_of ops.Divuw = codes "divuw"
name_of ops.Remw = codes "remw"
name_of ops.Remuw = codes "remuw"
name_of ops.Fence = codes "fence"
name_of ops.Ecall = codes "ecall"
name_of ops.Ebreak = codes "ebreak"

-- a comma and a space, and an offset with its base
abbrev pub comma : List ℕ → List ℕ → List ℕ
comma word rest = word ++ 44 ∷ 32 ∷ rest

abbrev pub based : ℤ → List ℕ → List ℕ
based offset base = (signed_decimal offset ++ 40 ∷ base) ++ 41 ∷ []

-- bits 31 to 12 of an immediate
abbrev pub upper_field : Insn → ℕ
upper_field i = field (cast_unsigned w64 i.imm) 12 20

-- the texts of the forms: three registers, two and a number, a register and an offset with its base, and one and a number
abbrev pub of_registers : (name a b c : List ℕ) → List ℕ
of_registers name a b c = name ++ 32 ∷ comma a (comma b c)

abbrev pub of_number : (name a b : List ℕ) → ℤ → List ℕ
of_number name a b n = name ++ 32 ∷ comma a (comma b (signed_decimal n))

abbrev pub of_place : (name a place : List ℕ) → List ℕ
of_place name a place = name ++ 32 ∷ comma a place

abbrev pub of_offset : (name a : List ℕ) → ℤ → List ℕ → List ℕ
of_offset name a offset base = of_place name a (based offset base)

abbrev pub of_distance : (name a : List ℕ) → ℤ → List ℕ
of_distance name a n = name ++ 32 ∷ comma a (signed_decimal n)

abbrev pub of_upper : (name a : List ℕ) → ℕ → List ℕ
of_upper name a n = name ++ 32 ∷ comma a (decimal n)

-- a name in lower case, a space and the operands of its format
unfoldable pub text_in : Format → (name : List ℕ) → Insn → List ℕ
text_in formats.R name i = of_registers name (register_name i.rd) (register_name i.rs1) (register_name i.rs2)
text_in formats.I name i = of_number name (register_name i.rd) (register_name i.rs1) i.imm
text_in formats.IShift name i = of_number name (register_name i.rd) (register_name i.rs1) i.imm
text_in formats.IShiftWord name i = of_number name (register_name i.rd) (register_name i.rs1) i.imm
text_in formats.IOffset name i = of_offset name (register_name i.rd) i.imm (register_name i.rs1)
text_in formats.S name i = of_offset name (register_name i.rs2) i.imm (register_name i.rs1)
text_in formats.B name i = of_number name (register_name i.rs1) (register_name i.rs2) i.imm
text_in formats.U name i = of_upper name (register_name i.rd) (upper_field i)
text_in formats.J name i = of_distance name (register_name i.rd) i.imm
text_in format name i = name

unfoldable pub text_of : Insn → List ℕ
text_of i = text_in (format_of i.op) (name_of i.op) i
