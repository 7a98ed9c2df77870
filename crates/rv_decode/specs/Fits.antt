-- Which instructions have a word of 32 bits: the fields that the name's format has are in their ranges, and the others
-- are 0. (RISC-V unprivileged manual, version 20191213, 2.2, 2.3 and 5.2)
use Rattle.std.specs.Prelude.{ℕ, ℤ, pos, neg_ℤ, ◌-◌, ◌%◌, ◌^◌, ◌==◌, ◌<◌, ◌/◌, ◌≡◌, ◌&&◌, ◌↔◌, Bool, false, Some, IsTrue, nat_lt, int_lt, int_le, unsigned_abs}
use Rattle.std.specs.Ordering.{int_eq}
use Rattle.rv_decode.specs.Means.{decoded}
use Rattle.rv_decode.specs.Names.{format_of}
use Rattle.rv_decode.specs.declared.insn.Insn.{Insn}
use Rattle.rv_decode.specs.declared.table.Format.{Format}
use Rattle.rv_decode.specs.declared.table.Format.TheVariants as formats

abbrev pub is_register : ℕ → Bool
is_register n = nat_lt n 32

-- a number of so many bits, the highest of which is its sign
abbrev pub is_signed : ℕ → ℤ → Bool
is_signed bits z = int_le (neg_ℤ (pos (2 ^ (bits - 1)))) z && int_lt z (pos (2 ^ (bits - 1)))

abbrev pub is_shift : ℕ → ℤ → Bool
is_shift bits z = int_le (pos 0) z && int_lt z (pos bits)

abbrev pub is_multiple : ℕ → ℤ → Bool
is_multiple n z = unsigned_abs z % n == 0

abbrev pub in_range : Format → Insn → Bool
in_range formats.R i = is_register i.rd && (is_register i.rs1 && (is_register i.rs2 && int_eq i.imm (pos 0)))
in_range formats.I i = is_register i.rd && (is_register i.rs1 && (i.rs2 == 0 && is_signed 12 i.imm))
in_range formats.IOffset i = is_register i.rd && (is_register i.rs1 && (i.rs2 == 0 && is_signed 12 i.imm))
in_range formats.IShift i = is_register i.rd && (is_register i.rs1 && (i.rs2 == 0 && is_shift 64 i.imm))
in_range formats.IShiftWord i = is_register i.rd && (is_register i.rs1 && (i.rs2 == 0 && is_shift 32 i.imm))
in_range formats.S i = i.rd == 0 && (is_register i.rs1 && (is_register i.rs2 && is_signed 12 i.imm))
in_range formats.B i = i.rd == 0 && (is_register i.rs1 && (is_register i.rs2 && (is_signed 13 i.imm && is_multiple 2 i.imm)))
in_range formats.U i = is_register i.rd && (i.rs1 == 0 && (i.rs2 == 0 && (is_signed 32 i.imm && is_multiple 4096 i.imm)))
in_range formats.J i = is_register i.rd && (i.rs1 == 0 && (i.rs2 == 0 && (is_signed 21 i.imm && is_multiple 2 i.imm)))
in_range formats.Fence i = i.rd == 0 && (i.rs1 == 0 && (i.rs2 == 0 && int_eq i.imm (pos 0)))
in_range formats.Whole i = i.rd == 0 && (i.rs1 == 0 && (i.rs2 == 0 && int_eq i.imm (pos 0)))
in_range format i = false

unfoldable pub fits : Insn → Bool
fits insn = in_range (format_of insn.op) insn

-- some word of 32 bits means the instruction
abbrev pub HasWord : Insn → Type 0
HasWord insn = (word : ℕ) × (word < 2 ^ 32) × (decoded (word % 2 ^ 16) (word / 2 ^ 16) ≡ Some (insn, 4))

-- these are the instructions that fit
abbrev pub FitsExactly : Type 0
FitsExactly = (insn : Insn) → IsTrue (fits insn) ↔ HasWord insn
