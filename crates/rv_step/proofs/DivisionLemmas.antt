-- Quotients and remainders are those of the manual.
use Rattle.std.proofs.Common.{◌≡◌, ℕ, zero, suc, ◌+◌, ◌-◌, ◌*◌, ◌/◌, ◌%◌, ◌^◌, ◌<◌, ◌≤◌, ℤ, pos, refl, sym, ◌∙◌, ap, arith, mul_comm, true, false}
use Rattle.std.proofs.Math.Facts.{sfits_to_z}
use Rattle.std.proofs.Math.Nat.{div-le_self, mod-le, mod-lt, div-add-mod, add-mul}
use Rattle.std.specs.Prelude.{◌==◌, ◌≢◌, FitsSigned, int_rem, int_div, int_lt, unsigned_abs, negsuc, neg_ℤ}
use Rattle.std.specs.Int.{cast_unsigned, cast_signed, w64}
use Rattle.std.proofs.lemmas.Int.{quot-rem, rem_below, to_z-of_z, of_z-to_z}
use Rattle.std.proofs.lemmas.Bool.{eq-eqb}
use Rattle.std.proofs.lemmas.Bool.Decides.{nat_tests}
use Rattle.rv_step.specs.Values.{signed, overflows, quotient_signed, remainder_signed}
use Rattle.rv_step.specs.Division.{SignedDivides, UnsignedDivides}
use Rattle.rv_step.proofs.Signed.{below}

negated_fits : (n : ℕ) → n ≤ 2 ^ 63 → FitsSigned w64 (neg_ℤ (pos n))
negated_fits zero h = record { sfits = omega arith }
negated_fits (suc n) h = record { sfits = omega arith }

small_fits : (z : ℤ) → unsigned_abs z < 2 ^ 63 → FitsSigned w64 z
small_fits (pos n) h = record { sfits = omega (arith, h) }
small_fits (negsuc n) h = record { sfits = omega (arith, h) }

-- a negative number from its 64 bits
bits_negative : (a p : ℕ) → a < 2 ^ 64 → signed a ≡ negsuc p → cast_unsigned w64 (negsuc p) ≡ a
bits_negative a p h e = ap (cast_unsigned w64) (sym e) ∙ of_z-to_z w64 a h

-- the case that overflows is that of the least number and -1
overflow_is : (a b p q : ℕ) → a < 2 ^ 64 → b < 2 ^ 64 → signed a ≡ negsuc p → signed b ≡ negsuc q → p ≡ 2 ^ 63 - 1 → q ≡ 0 → overflows a b ≡ true
overflow_is a b p q ha hb ea eb hp hq =
    let least : 2 ^ 63 ≡ a = ap (λ n. cast_unsigned w64 (negsuc n)) (sym hp) ∙ bits_negative a p ha ea in
    let ones : 2 ^ 64 - 1 ≡ b = ap (λ n. cast_unsigned w64 (negsuc n)) (sym hq) ∙ bits_negative b q hb eb in
    rw (eq-eqb a (2 ^ 63) (sym least), eq-eqb b (2 ^ 64 - 1) (sym ones)) refl

quotient_below : (m q : ℕ) → m ≤ 2 ^ 63 → (m ≡ 2 ^ 63 → q ≡ 0 → ⊥) → m / suc q < 2 ^ 63
quotient_below m zero h apart = let other : m ≢ 2 ^ 63 = λ e. apart e refl in omega arith
quotient_below m (suc q) h apart =
    let x = m / suc (suc q) in
    let whole = div-add-mod m (suc (suc q)) in
    let two : suc (suc q) ≡ q + 2 = omega arith in
    let product : suc (suc q) * x ≡ q * x + 2 * x = ap (λ k. k * x) two ∙ add-mul q 2 x in
    omega (arith, whole, product)

quotient_fits : (a b : ℕ) (x y : ℤ) → signed a ≡ x → signed b ≡ y → a < 2 ^ 64 → b < 2 ^ 64 → overflows a b ≡ false → FitsSigned w64 x → FitsSigned w64 (int_div x y)
quotient_fits a b (pos m) (pos n) ea eb ha hb fine f = record { sfits = let k = f.sfits in omega (arith, k, div-le_self m n) }
quotient_fits a b (pos m) (negsuc n) ea eb ha hb fine f = let k = f.sfits in negated_fits (m / suc n) (omega (arith, k, div-le_self m (suc n)))
quotient_fits a b (negsuc m) (pos n) ea eb ha hb fine f = let k = f.sfits in negated_fits (suc m / n) (omega (arith, k, div-le_self (suc m) n))
quotient_fits a b (negsuc m) (negsuc n) ea eb ha hb fine f =
    let k = f.sfits in
    record { sfits = quotient_below (suc m) n (omega (arith, k)) (λ e z. let o = overflow_is a b m n ha hb ea eb (omega arith) z in cc) }

-- a remainder has the dividend's sign
rem_below_zero : (x y : ℤ) → int_lt (int_rem x y) (pos 0) ≡ true → int_lt x (pos 0) ≡ true
rem_below_zero (pos m) y h = absurd (grind (arith, nat_tests))
rem_below_zero (negsuc m) y h = refl

none_above : (k : ℕ) → int_lt (pos 0) (neg_ℤ (pos k)) ≡ true → ⊥
none_above zero h = cc
none_above (suc k) h = cc

rem_above_zero : (x y : ℤ) → int_lt (pos 0) (int_rem x y) ≡ true → int_lt (pos 0) x ≡ true
rem_above_zero (pos m) y h = let le = mod-le m (unsigned_abs y) in grind (arith, nat_tests)
rem_above_zero (negsuc m) y h = absurd (none_above (suc m % unsigned_abs y) h)

abs_positive : (b : ℕ) (y : ℤ) → signed b ≡ y → b < 2 ^ 64 → 0 < b → 0 < unsigned_abs y
abs_positive b (pos zero) e h k = let back : 0 ≡ b = ap (cast_unsigned w64) (sym e) ∙ of_z-to_z w64 b h in absurd (omega arith)
abs_positive b (pos (suc n)) e h k = omega arith
abs_positive b (negsuc n) e h k = omega arith

pub signed_divides : SignedDivides
unfolding quotient_signed remainder_signed
signed_divides a b ha hb positive fine =
    let test : (b == 0) ≡ false = grind (arith, nat_tests) in
    let fits : FitsSigned w64 (signed b) = sfits_to_z (record { fits = hb }) in
    let size = below (signed b) fits in
    let small : unsigned_abs (int_rem (signed a) (signed b)) < unsigned_abs (signed b) = rem_below (signed a) (signed b) (abs_positive b (signed b) refl hb positive) in
    let q : cast_signed w64 (cast_unsigned w64 (int_div (signed a) (signed b))) ≡ int_div (signed a) (signed b) =
    to_z-of_z w64 _ (quotient_fits a b (signed a) (signed b) refl refl ha hb fine (sfits_to_z (record { fits = ha }))) in
    let r : cast_signed w64 (cast_unsigned w64 (int_rem (signed a) (signed b))) ≡ int_rem (signed a) (signed b) =
    to_z-of_z w64 _ (small_fits _ (omega (arith, small, size))) in
    rw (test, fine, q, r) (record {
      whole = quot-rem (signed a) (signed b);
      small = small;
      below = rem_below_zero (signed a) (signed b);
      above = rem_above_zero (signed a) (signed b);
    })

pub unsigned_divides : UnsignedDivides
unsigned_divides a b positive =
    let test : (b == 0) ≡ false = grind (arith, nat_tests) in
    let whole = div-add-mod a b in
    let turned : a / b * b ≡ b * (a / b) = mul_comm (a / b) b in
    rw test (omega (arith, whole, turned), mod-lt a positive)
