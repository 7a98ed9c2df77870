-- Instructions that are decoded: registers and immediates in their ranges.
use Rattle.std.proofs.Common.{◌≡◌, ℕ, ◌≤◌, ◌<◌, ◌-◌, ◌^◌, pos, arith, Bool, true, false, sym, ap, subst, Some, List, [], ◌∷◌}
use Rattle.std.specs.Int.{w64}
use Rattle.std.specs.Prelude.{◌-ℤ◌, negsuc, nat_lt, if◌then◌else◌, FitsSigned}
use Rattle.std.proofs.lemmas.Int.{ints}
use Rattle.rv_decode.specs.declared.insn.Insn.{Insn}
use Rattle.rv_decode.specs.declared.insn.Op.{Op}
use Rattle.rv_decode.specs.declared.insn.Op.TheVariants as ops
use Rattle.rv_decode.specs.Fields.{bits, field, gathered, short, signed}
use Rattle.rv_decode.specs.Immediates.{imm_i, shamt, shamt_word, imm_s, imm_b, imm_u, imm_j, imm_addi4spn, offset_lw, offset_ld, imm_ci, shamt_ci, imm_addi16sp, imm_lui, offset_j, offset_b, offset_lwsp, offset_ldsp, offset_swsp, offset_sdsp}
use Rattle.rv_decode.specs.Means.{decoded, first}
use Rattle.rv_decode.specs.Rows.{Row, holds_row, reads, rows, word_of}
use Rattle.prov_runs.specs.FetchLaws.{DecodedFits, InsnFits}

minus_is : (m n : ℕ) → m < n → pos m -ℤ pos n ≡ negsuc (n - m - 1)
minus_is m n h = grind (arith, ints)

pub pos_fits : (n : ℕ) → n < 2 ^ 63 → FitsSigned w64 (pos n)
pos_fits n h = record { sfits = omega (arith, h) }

neg_fits : (n : ℕ) → n < 2 ^ 63 → FitsSigned w64 (negsuc n)
neg_fits n h = record { sfits = omega (arith, h) }

pub signed_fits : (count n : ℕ) → n < 2 ^ count → 2 ^ count ≤ 2 ^ 32 → FitsSigned w64 (signed count n)
signed_fits count n h k = by (nat_lt n (2 ^ (count - 1)))
  where
    by : (c : Bool) → FitsSigned w64 (if c then pos n else pos n -ℤ pos (2 ^ count))
    by true = pos_fits n (omega (arith, h, k))
    by false = subst (FitsSigned w64) (sym (minus_is n (2 ^ count) h)) (neg_fits (2 ^ count - n - 1) (omega (arith, h, k)))

field_below : (word low count : ℕ) → 0 < 2 ^ count → field word low count < 2 ^ count
field_below word low count h = omega (arith, h)

register : (word low : ℕ) → field word low 5 < 32
register word low = let h : 0 < 2 ^ 5 = omega arith in omega (arith, field_below word low 5 h)

short_register : (word low : ℕ) → short word low < 32
short_register word low = let h : 0 < 2 ^ 3 = omega arith in omega (arith, field_below word low 3 h)

imm_i_fits : (word : ℕ) → FitsSigned w64 (imm_i word)
imm_i_fits word =
    let h0 : field word 20 12 < 2 ^ 12 = field_below word 20 12 (omega arith) in
    let n : gathered (bits 20 12 0 ∷ []) word < 2 ^ 12 = omega (arith, h0) in
    signed_fits 12 _ n (omega arith)

shamt_fits : (word : ℕ) → FitsSigned w64 (shamt word)
shamt_fits word =
    let h0 : field word 20 6 < 2 ^ 6 = field_below word 20 6 (omega arith) in
    let n : gathered (bits 20 6 0 ∷ []) word < 2 ^ 6 = omega (arith, h0) in
    pos_fits _ (omega (arith, n))

shamt_word_fits : (word : ℕ) → FitsSigned w64 (shamt_word word)
shamt_word_fits word =
    let h0 : field word 20 5 < 2 ^ 5 = field_below word 20 5 (omega arith) in
    let n : gathered (bits 20 5 0 ∷ []) word < 2 ^ 5 = omega (arith, h0) in
    pos_fits _ (omega (arith, n))

imm_s_fits : (word : ℕ) → FitsSigned w64 (imm_s word)
imm_s_fits word =
    let h0 : field word 25 7 < 2 ^ 7 = field_below word 25 7 (omega arith) in
    let h1 : field word 7 5 < 2 ^ 5 = field_below word 7 5 (omega arith) in
    let n : gathered (bits 25 7 5 ∷ bits 7 5 0 ∷ []) word < 2 ^ 12 = omega (arith, h0, h1) in
    signed_fits 12 _ n (omega arith)

imm_b_fits : (word : ℕ) → FitsSigned w64 (imm_b word)
imm_b_fits word =
    let h0 : field word 31 1 < 2 ^ 1 = field_below word 31 1 (omega arith) in
    let h1 : field word 7 1 < 2 ^ 1 = field_below word 7 1 (omega arith) in
    let h2 : field word 25 6 < 2 ^ 6 = field_below word 25 6 (omega arith) in
    let h3 : field word 8 4 < 2 ^ 4 = field_below word 8 4 (omega arith) in
    let n : gathered (bits 31 1 12 ∷ bits 7 1 11 ∷ bits 25 6 5 ∷ bits 8 4 1 ∷ []) word < 2 ^ 13 = omega (arith, h0, h1, h2, h3) in
    signed_fits 13 _ n (omega arith)

imm_u_fits : (word : ℕ) → FitsSigned w64 (imm_u word)
imm_u_fits word =
    let h0 : field word 12 20 < 2 ^ 20 = field_below word 12 20 (omega arith) in
    let n : gathered (bits 12 20 12 ∷ []) word < 2 ^ 32 = omega (arith, h0) in
    signed_fits 32 _ n (omega arith)

imm_j_fits : (word : ℕ) → FitsSigned w64 (imm_j word)
imm_j_fits word =
    let h0 : field word 31 1 < 2 ^ 1 = field_below word 31 1 (omega arith) in
    let h1 : field word 12 8 < 2 ^ 8 = field_below word 12 8 (omega arith) in
    let h2 : field word 20 1 < 2 ^ 1 = field_below word 20 1 (omega arith) in
    let h3 : field word 21 10 < 2 ^ 10 = field_below word 21 10 (omega arith) in
    let n : gathered (bits 31 1 20 ∷ bits 12 8 12 ∷ bits 20 1 11 ∷ bits 21 10 1 ∷ []) word < 2 ^ 21 = omega (arith, h0, h1, h2, h3) in
    signed_fits 21 _ n (omega arith)

imm_addi4spn_fits : (word : ℕ) → FitsSigned w64 (imm_addi4spn word)
imm_addi4spn_fits word =
    let h0 : field word 11 2 < 2 ^ 2 = field_below word 11 2 (omega arith) in
    let h1 : field word 7 4 < 2 ^ 4 = field_below word 7 4 (omega arith) in
    let h2 : field word 6 1 < 2 ^ 1 = field_below word 6 1 (omega arith) in
    let h3 : field word 5 1 < 2 ^ 1 = field_below word 5 1 (omega arith) in
    let n : gathered (bits 11 2 4 ∷ bits 7 4 6 ∷ bits 6 1 2 ∷ bits 5 1 3 ∷ []) word < 2 ^ 10 = omega (arith, h0, h1, h2, h3) in
    pos_fits _ (omega (arith, n))

offset_lw_fits : (word : ℕ) → FitsSigned w64 (offset_lw word)
offset_lw_fits word =
    let h0 : field word 10 3 < 2 ^ 3 = field_below word 10 3 (omega arith) in
    let h1 : field word 6 1 < 2 ^ 1 = field_below word 6 1 (omega arith) in
    let h2 : field word 5 1 < 2 ^ 1 = field_below word 5 1 (omega arith) in
    let n : gathered (bits 10 3 3 ∷ bits 6 1 2 ∷ bits 5 1 6 ∷ []) word < 2 ^ 7 = omega (arith, h0, h1, h2) in
    pos_fits _ (omega (arith, n))

offset_ld_fits : (word : ℕ) → FitsSigned w64 (offset_ld word)
offset_ld_fits word =
    let h0 : field word 10 3 < 2 ^ 3 = field_below word 10 3 (omega arith) in
    let h1 : field word 5 2 < 2 ^ 2 = field_below word 5 2 (omega arith) in
    let n : gathered (bits 10 3 3 ∷ bits 5 2 6 ∷ []) word < 2 ^ 8 = omega (arith, h0, h1) in
    pos_fits _ (omega (arith, n))

imm_ci_fits : (word : ℕ) → FitsSigned w64 (imm_ci word)
imm_ci_fits word =
    let h0 : field word 12 1 < 2 ^ 1 = field_below word 12 1 (omega arith) in
    let h1 : field word 2 5 < 2 ^ 5 = field_below word 2 5 (omega arith) in
    let n : gathered (bits 12 1 5 ∷ bits 2 5 0 ∷ []) word < 2 ^ 6 = omega (arith, h0, h1) in
    signed_fits 6 _ n (omega arith)

shamt_ci_fits : (word : ℕ) → FitsSigned w64 (shamt_ci word)
shamt_ci_fits word =
    let h0 : field word 12 1 < 2 ^ 1 = field_below word 12 1 (omega arith) in
    let h1 : field word 2 5 < 2 ^ 5 = field_below word 2 5 (omega arith) in
    let n : gathered (bits 12 1 5 ∷ bits 2 5 0 ∷ []) word < 2 ^ 6 = omega (arith, h0, h1) in
    pos_fits _ (omega (arith, n))

imm_addi16sp_fits : (word : ℕ) → FitsSigned w64 (imm_addi16sp word)
imm_addi16sp_fits word =
    let h0 : field word 12 1 < 2 ^ 1 = field_below word 12 1 (omega arith) in
    let h1 : field word 6 1 < 2 ^ 1 = field_below word 6 1 (omega arith) in
    let h2 : field word 5 1 < 2 ^ 1 = field_below word 5 1 (omega arith) in
    let h3 : field word 3 2 < 2 ^ 2 = field_below word 3 2 (omega arith) in
    let h4 : field word 2 1 < 2 ^ 1 = field_below word 2 1 (omega arith) in
    let n : gathered (bits 12 1 9 ∷ bits 6 1 4 ∷ bits 5 1 6 ∷ bits 3 2 7 ∷ bits 2 1 5 ∷ []) word < 2 ^ 10 = omega (arith, h0, h1, h2, h3, h4) in
    signed_fits 10 _ n (omega arith)

imm_lui_fits : (word : ℕ) → FitsSigned w64 (imm_lui word)
imm_lui_fits word =
    let h0 : field word 12 1 < 2 ^ 1 = field_below word 12 1 (omega arith) in
    let h1 : field word 2 5 < 2 ^ 5 = field_below word 2 5 (omega arith) in
    let n : gathered (bits 12 1 17 ∷ bits 2 5 12 ∷ []) word < 2 ^ 18 = omega (arith, h0, h1) in
    signed_fits 18 _ n (omega arith)

offset_j_fits : (word : ℕ) → FitsSigned w64 (offset_j word)
offset_j_fits word =
    let h0 : field word 12 1 < 2 ^ 1 = field_below word 12 1 (omega arith) in
    let h1 : field word 11 1 < 2 ^ 1 = field_below word 11 1 (omega arith) in
    let h2 : field word 9 2 < 2 ^ 2 = field_below word 9 2 (omega arith) in
    let h3 : field word 8 1 < 2 ^ 1 = field_below word 8 1 (omega arith) in
    let h4 : field word 7 1 < 2 ^ 1 = field_below word 7 1 (omega arith) in
    let h5 : field word 6 1 < 2 ^ 1 = field_below word 6 1 (omega arith) in
    let h6 : field word 3 3 < 2 ^ 3 = field_below word 3 3 (omega arith) in
    let h7 : field word 2 1 < 2 ^ 1 = field_below word 2 1 (omega arith) in
    let n : gathered (bits 12 1 11 ∷ bits 11 1 4 ∷ bits 9 2 8 ∷ bits 8 1 10 ∷ bits 7 1 6 ∷ bits 6 1 7 ∷ bits 3 3 1 ∷ bits 2 1 5 ∷ []) word < 2 ^ 12 = omega (arith, h0, h1, h2, h3, h4, h5, h6, h7) in
    signed_fits 12 _ n (omega arith)

offset_b_fits : (word : ℕ) → FitsSigned w64 (offset_b word)
offset_b_fits word =
    let h0 : field word 12 1 < 2 ^ 1 = field_below word 12 1 (omega arith) in
    let h1 : field word 10 2 < 2 ^ 2 = field_below word 10 2 (omega arith) in
    let h2 : field word 5 2 < 2 ^ 2 = field_below word 5 2 (omega arith) in
    let h3 : field word 3 2 < 2 ^ 2 = field_below word 3 2 (omega arith) in
    let h4 : field word 2 1 < 2 ^ 1 = field_below word 2 1 (omega arith) in
    let n : gathered (bits 12 1 8 ∷ bits 10 2 3 ∷ bits 5 2 6 ∷ bits 3 2 1 ∷ bits 2 1 5 ∷ []) word < 2 ^ 9 = omega (arith, h0, h1, h2, h3, h4) in
    signed_fits 9 _ n (omega arith)

offset_lwsp_fits : (word : ℕ) → FitsSigned w64 (offset_lwsp word)
offset_lwsp_fits word =
    let h0 : field word 12 1 < 2 ^ 1 = field_below word 12 1 (omega arith) in
    let h1 : field word 4 3 < 2 ^ 3 = field_below word 4 3 (omega arith) in
    let h2 : field word 2 2 < 2 ^ 2 = field_below word 2 2 (omega arith) in
    let n : gathered (bits 12 1 5 ∷ bits 4 3 2 ∷ bits 2 2 6 ∷ []) word < 2 ^ 8 = omega (arith, h0, h1, h2) in
    pos_fits _ (omega (arith, n))

offset_ldsp_fits : (word : ℕ) → FitsSigned w64 (offset_ldsp word)
offset_ldsp_fits word =
    let h0 : field word 12 1 < 2 ^ 1 = field_below word 12 1 (omega arith) in
    let h1 : field word 5 2 < 2 ^ 2 = field_below word 5 2 (omega arith) in
    let h2 : field word 2 3 < 2 ^ 3 = field_below word 2 3 (omega arith) in
    let n : gathered (bits 12 1 5 ∷ bits 5 2 3 ∷ bits 2 3 6 ∷ []) word < 2 ^ 9 = omega (arith, h0, h1, h2) in
    pos_fits _ (omega (arith, n))

offset_swsp_fits : (word : ℕ) → FitsSigned w64 (offset_swsp word)
offset_swsp_fits word =
    let h0 : field word 9 4 < 2 ^ 4 = field_below word 9 4 (omega arith) in
    let h1 : field word 7 2 < 2 ^ 2 = field_below word 7 2 (omega arith) in
    let n : gathered (bits 9 4 2 ∷ bits 7 2 6 ∷ []) word < 2 ^ 8 = omega (arith, h0, h1) in
    pos_fits _ (omega (arith, n))

offset_sdsp_fits : (word : ℕ) → FitsSigned w64 (offset_sdsp word)
offset_sdsp_fits word =
    let h0 : field word 10 3 < 2 ^ 3 = field_below word 10 3 (omega arith) in
    let h1 : field word 7 3 < 2 ^ 3 = field_below word 7 3 (omega arith) in
    let n : gathered (bits 10 3 3 ∷ bits 7 3 6 ∷ []) word < 2 ^ 9 = omega (arith, h0, h1) in
    pos_fits _ (omega (arith, n))

-- By format

r_fits : (op : Op) (word : ℕ) → InsnFits (record { op = op; rd = field word 7 5; rs1 = field word 15 5; rs2 = field word 20 5; imm = pos 0 })
r_fits op word = record { names = record { rd = register word 7; rs1 = register word 15; rs2 = register word 20 }; imm = pos_fits 0 (omega arith) }

i_fits : (op : Op) (word : ℕ) → InsnFits (record { op = op; rd = field word 7 5; rs1 = field word 15 5; rs2 = 0; imm = imm_i word })
i_fits op word = record { names = record { rd = register word 7; rs1 = register word 15; rs2 = omega arith }; imm = imm_i_fits word }

i_offset_fits : (op : Op) (word : ℕ) → InsnFits (record { op = op; rd = field word 7 5; rs1 = field word 15 5; rs2 = 0; imm = imm_i word })
i_offset_fits op word = record { names = record { rd = register word 7; rs1 = register word 15; rs2 = omega arith }; imm = imm_i_fits word }

i_shift_fits : (op : Op) (word : ℕ) → InsnFits (record { op = op; rd = field word 7 5; rs1 = field word 15 5; rs2 = 0; imm = shamt word })
i_shift_fits op word = record { names = record { rd = register word 7; rs1 = register word 15; rs2 = omega arith }; imm = shamt_fits word }

i_shift_word_fits : (op : Op) (word : ℕ) → InsnFits (record { op = op; rd = field word 7 5; rs1 = field word 15 5; rs2 = 0; imm = shamt_word word })
i_shift_word_fits op word = record { names = record { rd = register word 7; rs1 = register word 15; rs2 = omega arith }; imm = shamt_word_fits word }

s_fits : (op : Op) (word : ℕ) → InsnFits (record { op = op; rd = 0; rs1 = field word 15 5; rs2 = field word 20 5; imm = imm_s word })
s_fits op word = record { names = record { rd = omega arith; rs1 = register word 15; rs2 = register word 20 }; imm = imm_s_fits word }

b_fits : (op : Op) (word : ℕ) → InsnFits (record { op = op; rd = 0; rs1 = field word 15 5; rs2 = field word 20 5; imm = imm_b word })
b_fits op word = record { names = record { rd = omega arith; rs1 = register word 15; rs2 = register word 20 }; imm = imm_b_fits word }

u_fits : (op : Op) (word : ℕ) → InsnFits (record { op = op; rd = field word 7 5; rs1 = 0; rs2 = 0; imm = imm_u word })
u_fits op word = record { names = record { rd = register word 7; rs1 = omega arith; rs2 = omega arith }; imm = imm_u_fits word }

j_fits : (op : Op) (word : ℕ) → InsnFits (record { op = op; rd = field word 7 5; rs1 = 0; rs2 = 0; imm = imm_j word })
j_fits op word = record { names = record { rd = register word 7; rs1 = omega arith; rs2 = omega arith }; imm = imm_j_fits word }

fence_fits : (op : Op) (word : ℕ) → InsnFits (record { op = op; rd = 0; rs1 = 0; rs2 = 0; imm = pos 0 })
fence_fits op word = record { names = record { rd = omega arith; rs1 = omega arith; rs2 = omega arith }; imm = pos_fits 0 (omega arith) }

whole_fits : (op : Op) (word : ℕ) → InsnFits (record { op = op; rd = 0; rs1 = 0; rs2 = 0; imm = pos 0 })
whole_fits op word = record { names = record { rd = omega arith; rs1 = omega arith; rs2 = omega arith }; imm = pos_fits 0 (omega arith) }

ciw_fits : (op : Op) (word : ℕ) → InsnFits (record { op = op; rd = short word 2; rs1 = 2; rs2 = 0; imm = imm_addi4spn word })
ciw_fits op word = record { names = record { rd = short_register word 2; rs1 = omega arith; rs2 = omega arith }; imm = imm_addi4spn_fits word }

cl_lw_fits : (op : Op) (word : ℕ) → InsnFits (record { op = op; rd = short word 2; rs1 = short word 7; rs2 = 0; imm = offset_lw word })
cl_lw_fits op word = record { names = record { rd = short_register word 2; rs1 = short_register word 7; rs2 = omega arith }; imm = offset_lw_fits word }

cl_ld_fits : (op : Op) (word : ℕ) → InsnFits (record { op = op; rd = short word 2; rs1 = short word 7; rs2 = 0; imm = offset_ld word })
cl_ld_fits op word = record { names = record { rd = short_register word 2; rs1 = short_register word 7; rs2 = omega arith }; imm = offset_ld_fits word }

cs_sw_fits : (op : Op) (word : ℕ) → InsnFits (record { op = op; rd = 0; rs1 = short word 7; rs2 = short word 2; imm = offset_lw word })
cs_sw_fits op word = record { names = record { rd = omega arith; rs1 = short_register word 7; rs2 = short_register word 2 }; imm = offset_lw_fits word }

cs_sd_fits : (op : Op) (word : ℕ) → InsnFits (record { op = op; rd = 0; rs1 = short word 7; rs2 = short word 2; imm = offset_ld word })
cs_sd_fits op word = record { names = record { rd = omega arith; rs1 = short_register word 7; rs2 = short_register word 2 }; imm = offset_ld_fits word }

ci_fits : (op : Op) (word : ℕ) → InsnFits (record { op = op; rd = field word 7 5; rs1 = field word 7 5; rs2 = 0; imm = imm_ci word })
ci_fits op word = record { names = record { rd = register word 7; rs1 = register word 7; rs2 = omega arith }; imm = imm_ci_fits word }

ci_li_fits : (op : Op) (word : ℕ) → InsnFits (record { op = op; rd = field word 7 5; rs1 = 0; rs2 = 0; imm = imm_ci word })
ci_li_fits op word = record { names = record { rd = register word 7; rs1 = omega arith; rs2 = omega arith }; imm = imm_ci_fits word }

ci_sp_fits : (op : Op) (word : ℕ) → InsnFits (record { op = op; rd = 2; rs1 = 2; rs2 = 0; imm = imm_addi16sp word })
ci_sp_fits op word = record { names = record { rd = omega arith; rs1 = omega arith; rs2 = omega arith }; imm = imm_addi16sp_fits word }

ci_lui_fits : (op : Op) (word : ℕ) → InsnFits (record { op = op; rd = field word 7 5; rs1 = 0; rs2 = 0; imm = imm_lui word })
ci_lui_fits op word = record { names = record { rd = register word 7; rs1 = omega arith; rs2 = omega arith }; imm = imm_lui_fits word }

ci_slli_fits : (op : Op) (word : ℕ) → InsnFits (record { op = op; rd = field word 7 5; rs1 = field word 7 5; rs2 = 0; imm = shamt_ci word })
ci_slli_fits op word = record { names = record { rd = register word 7; rs1 = register word 7; rs2 = omega arith }; imm = shamt_ci_fits word }

ci_lwsp_fits : (op : Op) (word : ℕ) → InsnFits (record { op = op; rd = field word 7 5; rs1 = 2; rs2 = 0; imm = offset_lwsp word })
ci_lwsp_fits op word = record { names = record { rd = register word 7; rs1 = omega arith; rs2 = omega arith }; imm = offset_lwsp_fits word }

ci_ldsp_fits : (op : Op) (word : ℕ) → InsnFits (record { op = op; rd = field word 7 5; rs1 = 2; rs2 = 0; imm = offset_ldsp word })
ci_ldsp_fits op word = record { names = record { rd = register word 7; rs1 = omega arith; rs2 = omega arith }; imm = offset_ldsp_fits word }

css_swsp_fits : (op : Op) (word : ℕ) → InsnFits (record { op = op; rd = 0; rs1 = 2; rs2 = field word 2 5; imm = offset_swsp word })
css_swsp_fits op word = record { names = record { rd = omega arith; rs1 = omega arith; rs2 = register word 2 }; imm = offset_swsp_fits word }

css_sdsp_fits : (op : Op) (word : ℕ) → InsnFits (record { op = op; rd = 0; rs1 = 2; rs2 = field word 2 5; imm = offset_sdsp word })
css_sdsp_fits op word = record { names = record { rd = omega arith; rs1 = omega arith; rs2 = register word 2 }; imm = offset_sdsp_fits word }

cb_shift_fits : (op : Op) (word : ℕ) → InsnFits (record { op = op; rd = short word 7; rs1 = short word 7; rs2 = 0; imm = shamt_ci word })
cb_shift_fits op word = record { names = record { rd = short_register word 7; rs1 = short_register word 7; rs2 = omega arith }; imm = shamt_ci_fits word }

cb_andi_fits : (op : Op) (word : ℕ) → InsnFits (record { op = op; rd = short word 7; rs1 = short word 7; rs2 = 0; imm = imm_ci word })
cb_andi_fits op word = record { names = record { rd = short_register word 7; rs1 = short_register word 7; rs2 = omega arith }; imm = imm_ci_fits word }

cb_fits : (op : Op) (word : ℕ) → InsnFits (record { op = op; rd = 0; rs1 = short word 7; rs2 = 0; imm = offset_b word })
cb_fits op word = record { names = record { rd = omega arith; rs1 = short_register word 7; rs2 = omega arith }; imm = offset_b_fits word }

ca_fits : (op : Op) (word : ℕ) → InsnFits (record { op = op; rd = short word 7; rs1 = short word 7; rs2 = short word 2; imm = pos 0 })
ca_fits op word = record { names = record { rd = short_register word 7; rs1 = short_register word 7; rs2 = short_register word 2 }; imm = pos_fits 0 (omega arith) }

cj_fits : (op : Op) (word : ℕ) → InsnFits (record { op = op; rd = 0; rs1 = 0; rs2 = 0; imm = offset_j word })
cj_fits op word = record { names = record { rd = omega arith; rs1 = omega arith; rs2 = omega arith }; imm = offset_j_fits word }

cr_jr_fits : (op : Op) (word : ℕ) → InsnFits (record { op = op; rd = 0; rs1 = field word 7 5; rs2 = 0; imm = pos 0 })
cr_jr_fits op word = record { names = record { rd = omega arith; rs1 = register word 7; rs2 = omega arith }; imm = pos_fits 0 (omega arith) }

cr_jalr_fits : (op : Op) (word : ℕ) → InsnFits (record { op = op; rd = 1; rs1 = field word 7 5; rs2 = 0; imm = pos 0 })
cr_jalr_fits op word = record { names = record { rd = omega arith; rs1 = register word 7; rs2 = omega arith }; imm = pos_fits 0 (omega arith) }

cr_mv_fits : (op : Op) (word : ℕ) → InsnFits (record { op = op; rd = field word 7 5; rs1 = 0; rs2 = field word 2 5; imm = pos 0 })
cr_mv_fits op word = record { names = record { rd = register word 7; rs1 = omega arith; rs2 = register word 2 }; imm = pos_fits 0 (omega arith) }

cr_add_fits : (op : Op) (word : ℕ) → InsnFits (record { op = op; rd = field word 7 5; rs1 = field word 7 5; rs2 = field word 2 5; imm = pos 0 })
cr_add_fits op word = record { names = record { rd = register word 7; rs1 = register word 7; rs2 = register word 2 }; imm = pos_fits 0 (omega arith) }

-- Row by row

abbrev AllFit : List Row → Type 0
AllFit [] = Unit {0}
AllFit (row ∷ more) = ((word : ℕ) → InsnFits (reads row word)) × AllFit more

rows_fit : AllFit rows
unfolding rows
rows_fit = (
  u_fits ops.Lui,
  (
    u_fits ops.Auipc,
    (
      j_fits ops.Jal,
      (
        i_offset_fits ops.Jalr,
        (
          b_fits ops.Beq,
          (
            b_fits ops.Bne,
            (
              b_fits ops.Blt,
              (
                b_fits ops.Bge,
                (
                  b_fits ops.Bltu,
                  (
                    b_fits ops.Bgeu,
                    (
                      i_offset_fits ops.Lb,
                      (
                        i_offset_fits ops.Lh,
                        (
                          i_offset_fits ops.Lw,
                          (
                            i_offset_fits ops.Ld,
                            (
                              i_offset_fits ops.Lbu,
                              (
                                i_offset_fits ops.Lhu,
                                (
                                  i_offset_fits ops.Lwu,
                                  (
                                    s_fits ops.Sb,
                                    (
                                      s_fits ops.Sh,
                                      (
                                        s_fits ops.Sw,
                                        (
                                          s_fits ops.Sd,
                                          (
                                            i_fits ops.Addi,
                                            (
                                              i_shift_fits ops.Slli,
                                              (
                                                i_fits ops.Slti,
                                                (
                                                  i_fits ops.Sltiu,
                                                  (
                                                    i_fits ops.Xori,
                                                    (
                                                      i_shift_fits ops.Srli,
                                                      (
                                                        i_shift_fits ops.Srai,
                                                        (
                                                          i_fits ops.Ori,
                                                          (
                                                            i_fits ops.Andi,
                                                            (
                                                              i_fits ops.Addiw,
                                                              (
                                                                i_shift_word_fits ops.Slliw,
                                                                (
                                                                  i_shift_word_fits ops.Srliw,
                                                                  (
                                                                    i_shift_word_fits ops.Sraiw,
                                                                    (
                                                                      r_fits ops.Add,
                                                                      (
                                                                        r_fits ops.Sub,
                                                                        (
                                                                          r_fits ops.Mul,
                                                                          (
                                                                            r_fits ops.Sll,
                                                                            (
                                                                              r_fits ops.Mulh,
                                                                              (
                                                                                r_fits ops.Slt,
                                                                                (
                                                                                  r_fits ops.Mulhsu,
                                                                                  (
                                                                                    r_fits ops.Sltu,
                                                                                    (
                                                                                      r_fits ops.Mulhu,
                                                                                      (
                                                                                        r_fits ops.Xor,
                                                                                        (
                                                                                          r_fits ops.Div,
                                                                                          (
                                                                                            r_fits ops.Srl,
                                                                                            (
                                                                                              r_fits ops.Sra,
                                                                                              (
                                                                                                r_fits ops.Divu,
                                                                                                (
                                                                                                  r_fits ops.Or,
                                                                                                  (
                                                                                                    r_fits ops.Rem,
                                                                                                    (
                                                                                                      r_fits ops.And,
                                                                                                      (
                                                                                                        r_fits ops.Remu,
                                                                                                        (
                                                                                                          r_fits ops.Addw,
                                                                                                          (
                                                                                                            r_fits ops.Subw,
                                                                                                            (
                                                                                                              r_fits ops.Mulw,
                                                                                                              (
                                                                                                                r_fits ops.Sllw,
                                                                                                                (
                                                                                                                  r_fits ops.Divw,
                                                                                                                  (
                                                                                                                    r_fits ops.Srlw,
                                                                                                                    (
                                                                                                                      r_fits ops.Sraw,
                                                                                                                      (
                                                                                                                        r_fits ops.Divuw,
                                                                                                                        (
                                                                                                                          r_fits ops.Remw,
                                                                                                                          (
                                                                                                                            r_fits ops.Remuw,
                                                                                                                            (
                                                                                                                              fence_fits ops.Fence,
                                                                                                                              (
                                                                                                                                whole_fits ops.Ecall,
                                                                                                                                (
                                                                                                                                  whole_fits ops.Ebreak,
                                                                                                                                  (
                                                                                                                                    ciw_fits ops.Addi,
                                                                                                                                    (
                                                                                                                                      cl_lw_fits ops.Lw,
                                                                                                                                      (
                                                                                                                                        cl_ld_fits ops.Ld,
                                                                                                                                        (
                                                                                                                                          cs_sw_fits ops.Sw,
                                                                                                                                          (
                                                                                                                                            cs_sd_fits ops.Sd,
                                                                                                                                            (
                                                                                                                                              ci_fits ops.Addi,
                                                                                                                                              (
                                                                                                                                                ci_fits ops.Addiw,
                                                                                                                                                (
                                                                                                                                                  ci_li_fits ops.Addi,
                                                                                                                                                  (
                                                                                                                                                    ci_sp_fits ops.Addi,
                                                                                                                                                    (
                                                                                                                                                      ci_lui_fits ops.Lui,
                                                                                                                                                      (
                                                                                                                                                        cb_shift_fits ops.Srli,
                                                                                                                                                        (
                                                                                                                                                          cb_shift_fits ops.Srai,
                                                                                                                                                          (
                                                                                                                                                            cb_andi_fits ops.Andi,
                                                                                                                                                            (
                                                                                                                                                              ca_fits ops.Sub,
                                                                                                                                                              (
                                                                                                                                                                ca_fits ops.Xor,
                                                                                                                                                                (
                                                                                                                                                                  ca_fits ops.Or,
                                                                                                                                                                  (
                                                                                                                                                                    ca_fits ops.And,
                                                                                                                                                                    (
                                                                                                                                                                      ca_fits ops.Subw,
                                                                                                                                                                      (
                                                                                                                                                                        ca_fits ops.Addw,
                                                                                                                                                                        (
                                                                                                                                                                          cj_fits ops.Jal,
                                                                                                                                                                          (
                                                                                                                                                                            cb_fits ops.Beq,
                                                                                                                                                                            (
                                                                                                                                                                              cb_fits ops.Bne,
                                                                                                                                                                              (
                                                                                                                                                                                ci_slli_fits ops.Slli,
                                                                                                                                                                                (
                                                                                                                                                                                  ci_lwsp_fits ops.Lw,
                                                                                                                                                                                  (
                                                                                                                                                                                    ci_ldsp_fits ops.Ld,
                                                                                                                                                                                    (
                                                                                                                                                                                      cr_jr_fits ops.Jalr,
                                                                                                                                                                                      (
                                                                                                                                                                                        cr_mv_fits ops.Add,
                                                                                                                                                                                        (
                                                                                                                                                                                          whole_fits ops.Ebreak,
                                                                                                                                                                                          (
                                                                                                                                                                                            cr_jalr_fits ops.Jalr,
                                                                                                                                                                                            (
                                                                                                                                                                                              cr_add_fits ops.Add,
                                                                                                                                                                                              (
                                                                                                                                                                                                css_swsp_fits ops.Sw,
                                                                                                                                                                                                (
                                                                                                                                                                                                  css_sdsp_fits ops.Sd,
                                                                                                                                                                                                  tt,
                                                                                                                                                                                                ),
                                                                                                                                                                                              ),
                                                                                                                                                                                            ),
                                                                                                                                                                                          ),
                                                                                                                                                                                        ),
                                                                                                                                                                                      ),
                                                                                                                                                                                    ),
                                                                                                                                                                                  ),
                                                                                                                                                                                ),
                                                                                                                                                                              ),
                                                                                                                                                                            ),
                                                                                                                                                                          ),
                                                                                                                                                                        ),
                                                                                                                                                                      ),
                                                                                                                                                                    ),
                                                                                                                                                                  ),
                                                                                                                                                                ),
                                                                                                                                                              ),
                                                                                                                                                            ),
                                                                                                                                                          ),
                                                                                                                                                        ),
                                                                                                                                                      ),
                                                                                                                                                    ),
                                                                                                                                                  ),
                                                                                                                                                ),
                                                                                                                                              ),
                                                                                                                                            ),
                                                                                                                                          ),
                                                                                                                                        ),
                                                                                                                                      ),
                                                                                                                                    ),
                                                                                                                                  ),
                                                                                                                                ),
                                                                                                                              ),
                                                                                                                            ),
                                                                                                                          ),
                                                                                                                        ),
                                                                                                                      ),
                                                                                                                    ),
                                                                                                                  ),
                                                                                                                ),
                                                                                                              ),
                                                                                                            ),
                                                                                                          ),
                                                                                                        ),
                                                                                                      ),
                                                                                                    ),
                                                                                                  ),
                                                                                                ),
                                                                                              ),
                                                                                            ),
                                                                                          ),
                                                                                        ),
                                                                                      ),
                                                                                    ),
                                                                                  ),
                                                                                ),
                                                                              ),
                                                                            ),
                                                                          ),
                                                                        ),
                                                                      ),
                                                                    ),
                                                                  ),
                                                                ),
                                                              ),
                                                            ),
                                                          ),
                                                        ),
                                                      ),
                                                    ),
                                                  ),
                                                ),
                                              ),
                                            ),
                                          ),
                                        ),
                                      ),
                                    ),
                                  ),
                                ),
                              ),
                            ),
                          ),
                        ),
                      ),
                    ),
                  ),
                ),
              ),
            ),
          ),
        ),
      ),
    ),
  ),
)

first_fits : (rs : List Row) (word : ℕ) (insn : Insn) (len : ℕ) → AllFit rs → first rs word ≡ Some (insn, len) → InsnFits insn
first_fits [] word insn len all h = absurd cc
first_fits (row ∷ more) word insn len all h = by (first_fits more word insn len (all.1)) (holds_row row word) h
  where
    inner : {x y : Insn × ℕ} → Some x ≡ Some y → x ≡ y
    inner e = cc

    by : (first more word ≡ Some (insn, len) → InsnFits insn) → (c : Bool) → (if c then Some (reads row word, row.length) else first more word) ≡ Some (insn, len) → InsnFits insn
    by later true e = subst InsnFits (ap (λ z. z.0) (inner e)) (all.0 word)
    by later false e = later e

pub decoded_fits : DecodedFits
unfolding decoded
decoded_fits half0 half1 insn len h = first_fits rows (word_of half0 half1) insn len rows_fit h
