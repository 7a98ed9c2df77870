-- The immediates, each by its pieces from the word's highest bit down, in the manual's notation. (RISC-V unprivileged
-- manual, version 20191213, 2.3 and 5.2; 16.3 to 16.5 for 16 bits)
use Rattle.std.specs.Prelude.{ℕ, ℤ, pos, [], ◌∷◌}
use Rattle.rv_decode.specs.Fields.{signed, bits, gathered}

-- I-type: imm[11:0] at 31:20
abbrev pub imm_i : ℕ → ℤ
imm_i word = signed 12 (gathered (bits 20 12 0 ∷ []) word)

-- shifts of 64 bits: shamt[5:0] at 25:20
abbrev pub shamt : ℕ → ℤ
shamt word = pos (gathered (bits 20 6 0 ∷ []) word)

-- shifts of 32 bits: shamt[4:0] at 24:20
abbrev pub shamt_word : ℕ → ℤ
shamt_word word = pos (gathered (bits 20 5 0 ∷ []) word)

-- S-type: imm[11:5] at 31:25, imm[4:0] at 11:7
abbrev pub imm_s : ℕ → ℤ
imm_s word = signed 12 (gathered (bits 25 7 5 ∷ bits 7 5 0 ∷ []) word)

-- B-type: imm[12|10:5] at 31:25, imm[4:1|11] at 11:7
abbrev pub imm_b : ℕ → ℤ
imm_b word = signed 13 (gathered (bits 31 1 12 ∷ bits 7 1 11 ∷ bits 25 6 5 ∷ bits 8 4 1 ∷ []) word)

-- U-type: imm[31:12] at 31:12
abbrev pub imm_u : ℕ → ℤ
imm_u word = signed 32 (gathered (bits 12 20 12 ∷ []) word)

-- J-type: imm[20|10:1|11|19:12] at 31:12
abbrev pub imm_j : ℕ → ℤ
imm_j word = signed 21 (gathered (bits 31 1 20 ∷ bits 12 8 12 ∷ bits 20 1 11 ∷ bits 21 10 1 ∷ []) word)

-- C.ADDI4SPN: nzuimm[5:4|9:6|2|3] at 12:5
abbrev pub imm_addi4spn : ℕ → ℤ
imm_addi4spn word = pos (gathered (bits 11 2 4 ∷ bits 7 4 6 ∷ bits 6 1 2 ∷ bits 5 1 3 ∷ []) word)

-- C.LW, C.SW: offset[5:3] at 12:10, offset[2|6] at 6:5
abbrev pub offset_lw : ℕ → ℤ
offset_lw word = pos (gathered (bits 10 3 3 ∷ bits 6 1 2 ∷ bits 5 1 6 ∷ []) word)

-- C.LD, C.SD: offset[5:3] at 12:10, offset[7:6] at 6:5
abbrev pub offset_ld : ℕ → ℤ
offset_ld word = pos (gathered (bits 10 3 3 ∷ bits 5 2 6 ∷ []) word)

-- C.ADDI, C.ADDIW, C.LI, C.ANDI: imm[5] at 12, imm[4:0] at 6:2
abbrev pub imm_ci : ℕ → ℤ
imm_ci word = signed 6 (gathered (bits 12 1 5 ∷ bits 2 5 0 ∷ []) word)

-- C.SLLI, C.SRLI, C.SRAI: shamt[5] at 12, shamt[4:0] at 6:2
abbrev pub shamt_ci : ℕ → ℤ
shamt_ci word = pos (gathered (bits 12 1 5 ∷ bits 2 5 0 ∷ []) word)

-- C.ADDI16SP: nzimm[9] at 12, nzimm[4|6|8:7|5] at 6:2
abbrev pub imm_addi16sp : ℕ → ℤ
imm_addi16sp word = signed 10 (gathered (bits 12 1 9 ∷ bits 6 1 4 ∷ bits 5 1 6 ∷ bits 3 2 7 ∷ bits 2 1 5 ∷ []) word)

-- C.LUI: nzimm[17] at 12, nzimm[16:12] at 6:2
abbrev pub imm_lui : ℕ → ℤ
imm_lui word = signed 18 (gathered (bits 12 1 17 ∷ bits 2 5 12 ∷ []) word)

-- C.J: offset[11|4|9:8|10|6|7|3:1|5] at 12:2
abbrev pub offset_j : ℕ → ℤ
offset_j word = signed 12 (gathered (bits 12 1 11 ∷ bits 11 1 4 ∷ bits 9 2 8 ∷ bits 8 1 10 ∷ bits 7 1 6 ∷ bits 6 1 7 ∷ bits 3 3 1 ∷ bits 2 1 5 ∷ []) word)

-- C.BEQZ, C.BNEZ: offset[8|4:3] at 12:10, offset[7:6|2:1|5] at 6:2
abbrev pub offset_b : ℕ → ℤ
offset_b word = signed 9 (gathered (bits 12 1 8 ∷ bits 10 2 3 ∷ bits 5 2 6 ∷ bits 3 2 1 ∷ bits 2 1 5 ∷ []) word)

-- C.LWSP: offset[5] at 12, offset[4:2|7:6] at 6:2
abbrev pub offset_lwsp : ℕ → ℤ
offset_lwsp word = pos (gathered (bits 12 1 5 ∷ bits 4 3 2 ∷ bits 2 2 6 ∷ []) word)

-- C.LDSP: offset[5] at 12, offset[4:3|8:6] at 6:2
abbrev pub offset_ldsp : ℕ → ℤ
offset_ldsp word = pos (gathered (bits 12 1 5 ∷ bits 5 2 3 ∷ bits 2 3 6 ∷ []) word)

-- C.SWSP: offset[5:2|7:6] at 12:7
abbrev pub offset_swsp : ℕ → ℤ
offset_swsp word = pos (gathered (bits 9 4 2 ∷ bits 7 2 6 ∷ []) word)

-- C.SDSP: offset[5:3|8:6] at 12:7
abbrev pub offset_sdsp : ℕ → ℤ
offset_sdsp word = pos (gathered (bits 10 3 3 ∷ bits 7 3 6 ∷ []) word)
