-- The words of 32 bits that instructions have, by the format of their row and the value of its mask's bits.
use Rattle.std.specs.Prelude.{ℕ, ◌+◌, ◌*◌, ◌%◌, ◌^◌}
use Rattle.std.specs.Int.{cast_unsigned, w64}
use Rattle.rv_decode.specs.Fields.{field}
use Rattle.rv_decode.specs.declared.table.Format.{Format}
use Rattle.rv_decode.specs.declared.table.Format.TheVariants as formats
use Rattle.rv_decode.specs.declared.insn.Insn.{Insn}

-- so many bits of the immediate from bit `low` on, as bits of the word from bit `place` on
abbrev pub moved : Insn → ℕ → ℕ → ℕ → ℕ
moved insn low count place = field (cast_unsigned w64 insn.imm) low count * 2 ^ place

abbrev pub rd_bits : Insn → ℕ
rd_bits insn = insn.rd * 2 ^ 7

abbrev pub rs1_bits : Insn → ℕ
rs1_bits insn = insn.rs1 * 2 ^ 15

abbrev pub rs2_bits : Insn → ℕ
rs2_bits insn = insn.rs2 * 2 ^ 20

abbrev pub pack_i : ℕ → Insn → ℕ
pack_i value insn = (value + rd_bits insn + rs1_bits insn + moved insn 0 12 20) % 2 ^ 32

abbrev pub pack_s : ℕ → Insn → ℕ
pack_s value insn = (value + rs1_bits insn + rs2_bits insn + moved insn 5 7 25 + moved insn 0 5 7) % 2 ^ 32

abbrev pub pack_b : ℕ → Insn → ℕ
pack_b value insn = (value + rs1_bits insn + rs2_bits insn + moved insn 12 1 31 + moved insn 11 1 7 + moved insn 5 6 25 + moved insn 1 4 8) % 2 ^ 32

abbrev pub pack_u : ℕ → Insn → ℕ
pack_u value insn = (value + rd_bits insn + moved insn 12 20 12) % 2 ^ 32

abbrev pub pack_j : ℕ → Insn → ℕ
pack_j value insn = (value + rd_bits insn + moved insn 20 1 31 + moved insn 12 8 12 + moved insn 11 1 20 + moved insn 1 10 21) % 2 ^ 32

abbrev pub pack_shift : ℕ → Insn → ℕ
pack_shift value insn = (value + rd_bits insn + rs1_bits insn + moved insn 0 6 20) % 2 ^ 32

abbrev pub pack_shift_w : ℕ → Insn → ℕ
pack_shift_w value insn = (value + rd_bits insn + rs1_bits insn + moved insn 0 5 20) % 2 ^ 32

abbrev pub pack_r : ℕ → Insn → ℕ
pack_r value insn = (value + rd_bits insn + rs1_bits insn + rs2_bits insn) % 2 ^ 32

-- the word of FENCE orders all accesses before it with all behind it
abbrev pub packed : Format → ℕ → Insn → ℕ
packed formats.R value insn = pack_r value insn
packed formats.I value insn = pack_i value insn
packed formats.IOffset value insn = pack_i value insn
packed formats.IShift value insn = pack_shift value insn
packed formats.IShiftWord value insn = pack_shift_w value insn
packed formats.S value insn = pack_s value insn
packed formats.B value insn = pack_b value insn
packed formats.U value insn = pack_u value insn
packed formats.J value insn = pack_j value insn
packed formats.Fence value insn = 0x0ff0000f
packed format value insn = value
