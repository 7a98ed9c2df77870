-- The formats: which fields an instruction has and where. (RISC-V unprivileged manual, version 20191213, 2.2 and 16.2)
-- A 16-bit instruction is read as the 32-bit one that the manual expands it to.
use Rattle.std.specs.Prelude.{ℕ, pos}
use Rattle.rv_decode.specs.Fields.{field, short}
use Rattle.rv_decode.specs.Immediates.{imm_i, shamt, shamt_word, imm_s, imm_b, imm_u, imm_j, imm_addi4spn, offset_lw, offset_ld, imm_ci, shamt_ci, imm_addi16sp, imm_lui, offset_j, offset_b, offset_lwsp, offset_ldsp, offset_swsp, offset_sdsp}
use Rattle.rv_decode.specs.declared.insn.Insn.{Insn}
use Rattle.rv_decode.specs.declared.insn.Op.{Op}
use Rattle.rv_decode.specs.declared.table.Format.{Format}
use Rattle.rv_decode.specs.declared.table.Format.TheVariants as formats

-- the instruction of a word in a format
abbrev pub reads_of : Format → Op → ℕ → Insn
-- R-type
reads_of formats.R op word = record { op = op; rd = field word 7 5; rs1 = field word 15 5; rs2 = field word 20 5; imm = pos 0 }
-- I-type of a register and an immediate
reads_of formats.I op word = record { op = op; rd = field word 7 5; rs1 = field word 15 5; rs2 = 0; imm = imm_i word }
-- I-type of an offset and a base: the loads and JALR
reads_of formats.IOffset op word = record { op = op; rd = field word 7 5; rs1 = field word 15 5; rs2 = 0; imm = imm_i word }
-- I-type of a shift of 64 bits
reads_of formats.IShift op word = record { op = op; rd = field word 7 5; rs1 = field word 15 5; rs2 = 0; imm = shamt word }
-- I-type of a shift of 32 bits
reads_of formats.IShiftWord op word = record { op = op; rd = field word 7 5; rs1 = field word 15 5; rs2 = 0; imm = shamt_word word }
-- S-type
reads_of formats.S op word = record { op = op; rd = 0; rs1 = field word 15 5; rs2 = field word 20 5; imm = imm_s word }
-- B-type
reads_of formats.B op word = record { op = op; rd = 0; rs1 = field word 15 5; rs2 = field word 20 5; imm = imm_b word }
-- U-type
reads_of formats.U op word = record { op = op; rd = field word 7 5; rs1 = 0; rs2 = 0; imm = imm_u word }
-- J-type
reads_of formats.J op word = record { op = op; rd = field word 7 5; rs1 = 0; rs2 = 0; imm = imm_j word }
-- FENCE, whose fields are ignored
reads_of formats.Fence op word = record { op = op; rd = 0; rs1 = 0; rs2 = 0; imm = pos 0 }
-- a whole word: ECALL, EBREAK, C.EBREAK
reads_of formats.Whole op word = record { op = op; rd = 0; rs1 = 0; rs2 = 0; imm = pos 0 }
-- C.ADDI4SPN
reads_of formats.Ciw op word = record { op = op; rd = short word 2; rs1 = 2; rs2 = 0; imm = imm_addi4spn word }
-- C.LW
reads_of formats.ClLw op word = record { op = op; rd = short word 2; rs1 = short word 7; rs2 = 0; imm = offset_lw word }
-- C.LD
reads_of formats.ClLd op word = record { op = op; rd = short word 2; rs1 = short word 7; rs2 = 0; imm = offset_ld word }
-- C.SW
reads_of formats.CsSw op word = record { op = op; rd = 0; rs1 = short word 7; rs2 = short word 2; imm = offset_lw word }
-- C.SD
reads_of formats.CsSd op word = record { op = op; rd = 0; rs1 = short word 7; rs2 = short word 2; imm = offset_ld word }
-- C.ADDI, C.ADDIW
reads_of formats.Ci op word = record { op = op; rd = field word 7 5; rs1 = field word 7 5; rs2 = 0; imm = imm_ci word }
-- C.LI
reads_of formats.CiLi op word = record { op = op; rd = field word 7 5; rs1 = 0; rs2 = 0; imm = imm_ci word }
-- C.ADDI16SP
reads_of formats.CiSp op word = record { op = op; rd = 2; rs1 = 2; rs2 = 0; imm = imm_addi16sp word }
-- C.LUI
reads_of formats.CiLui op word = record { op = op; rd = field word 7 5; rs1 = 0; rs2 = 0; imm = imm_lui word }
-- C.SLLI
reads_of formats.CiSlli op word = record { op = op; rd = field word 7 5; rs1 = field word 7 5; rs2 = 0; imm = shamt_ci word }
-- C.LWSP
reads_of formats.CiLwsp op word = record { op = op; rd = field word 7 5; rs1 = 2; rs2 = 0; imm = offset_lwsp word }
-- C.LDSP
reads_of formats.CiLdsp op word = record { op = op; rd = field word 7 5; rs1 = 2; rs2 = 0; imm = offset_ldsp word }
-- C.SWSP
reads_of formats.CssSwsp op word = record { op = op; rd = 0; rs1 = 2; rs2 = field word 2 5; imm = offset_swsp word }
-- C.SDSP
reads_of formats.CssSdsp op word = record { op = op; rd = 0; rs1 = 2; rs2 = field word 2 5; imm = offset_sdsp word }
-- C.SRLI, C.SRAI
reads_of formats.CbShift op word = record { op = op; rd = short word 7; rs1 = short word 7; rs2 = 0; imm = shamt_ci word }
-- C.ANDI
reads_of formats.CbAndi op word = record { op = op; rd = short word 7; rs1 = short word 7; rs2 = 0; imm = imm_ci word }
-- C.BEQZ, C.BNEZ
reads_of formats.Cb op word = record { op = op; rd = 0; rs1 = short word 7; rs2 = 0; imm = offset_b word }
-- C.SUB, C.XOR, C.OR, C.AND, C.SUBW, C.ADDW
reads_of formats.Ca op word = record { op = op; rd = short word 7; rs1 = short word 7; rs2 = short word 2; imm = pos 0 }
-- C.J
reads_of formats.Cj op word = record { op = op; rd = 0; rs1 = 0; rs2 = 0; imm = offset_j word }
-- C.JR
reads_of formats.CrJr op word = record { op = op; rd = 0; rs1 = field word 7 5; rs2 = 0; imm = pos 0 }
-- C.JALR
reads_of formats.CrJalr op word = record { op = op; rd = 1; rs1 = field word 7 5; rs2 = 0; imm = pos 0 }
-- C.MV
reads_of formats.CrMv op word = record { op = op; rd = field word 7 5; rs1 = 0; rs2 = field word 2 5; imm = pos 0 }
-- C.ADD
reads_of formats.CrAdd op word = record { op = op; rd = field word 7 5; rs1 = field word 7 5; rs2 = field word 2 5; imm = pos 0 }
