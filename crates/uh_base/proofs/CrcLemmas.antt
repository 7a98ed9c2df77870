-- The eight bits of a byte at once.
use Rattle.std.proofs.Common.{◌≡◌, ℕ, zero, suc, ◌+◌, ◌*◌, ◌/◌, ◌%◌, ◌^◌, ◌<◌, Bool, true, false, List, get_or, refl, sym, ap, ◌∙◌, arith}
use Rattle.std.specs.Prelude.{bit_xor, ◌==◌, if◌then◌else◌}
use Rattle.std.proofs.Math.Nat.{pow-succ'}
use Rattle.std.proofs.lemmas.Nat.{xor_mod, xor_shr, xor_block}
use lib.Bits.{xor_assoc, xor_zero_r}
use Rattle.uh_base.specs.Crc.{polynomial, after_bit, after_bits, remainders}
use Rattle.uh_base.specs.declared.crc.TheConstants.{TABLE}

-- a number whose low bit is 0, and one more: the low bit, and the rest
low_bit : (m y : ℕ) → bit_xor (2 * m) y % 2 ≡ y % 2
low_bit m y =
    let e : bit_xor (2 * m) y % 2 ≡ bit_xor (2 * m % 2) (y % 2) = xor_mod (2 * m) y 1 in
    let z : 2 * m % 2 ≡ 0 = omega arith in
    e ∙ (rw z refl)

high_bits : (m y : ℕ) → bit_xor (2 * m) y / 2 ≡ bit_xor m (y / 2)
high_bits m y =
    let e : bit_xor (2 * m) y / 2 ≡ bit_xor (2 * m / 2) (y / 2) = xor_shr (2 * m) y 1 in
    let z : 2 * m / 2 ≡ m = omega arith in
    e ∙ (rw z refl)

-- one bit of a number with even part
one_bit : (m y : ℕ) → after_bit (bit_xor (2 * m) y) ≡ bit_xor m (after_bit y)
one_bit m y = rw (low_bit m y, high_bits m y) (by (y % 2 == 1))
  where
    by : (odd : Bool) → (if odd then bit_xor (bit_xor m (y / 2)) polynomial else bit_xor m (y / 2)) ≡ bit_xor m (if odd then bit_xor (y / 2) polynomial else y / 2)
    by true = xor_assoc m (y / 2) polynomial
    by false = refl

-- what stands above the bits that are taken is only moved down
above : (k h y : ℕ) → after_bits k (bit_xor (h * 2 ^ k) y) ≡ bit_xor h (after_bits k y)
unfolding after_bits
above zero h y = let one : h * 2 ^ 0 ≡ h = omega arith in rw one refl
above (suc k) h y =
    let p : 2 ^ suc k ≡ 2 * 2 ^ k = pow-succ' 2 k in
    let e : h * 2 ^ suc k ≡ 2 * (h * 2 ^ k) = rw p (omega arith) in
    ap (λ n. after_bits k (after_bit (bit_xor n y))) e ∙ ap (after_bits k) (one_bit (h * 2 ^ k) y) ∙ above k h (after_bit y)

-- a number in its low byte and the rest
parted : (c : ℕ) → bit_xor (c / 256 * 2 ^ 8) (c % 256) ≡ c
parted c =
    let low : c % 256 < 2 ^ 8 = omega arith in
    let e : bit_xor (c / 256 * 2 ^ 8 + 0) (0 * 2 ^ 8 + c % 256) ≡ bit_xor (c / 256) 0 * 2 ^ 8 + bit_xor 0 (c % 256) = xor_block 8 (c / 256) 0 0 (c % 256) (omega arith) low in
    let z : bit_xor (c / 256) 0 ≡ c / 256 = xor_zero_r (c / 256) in
    let left : c / 256 * 2 ^ 8 + 0 ≡ c / 256 * 2 ^ 8 = omega arith in
    let right : 0 * 2 ^ 8 + c % 256 ≡ c % 256 = omega arith in
    (rw (left, right, z) at e) ∙ omega arith

eight_bits : (c : ℕ) → after_bits 8 c ≡ bit_xor (c / 256) (after_bits 8 (c % 256))
eight_bits c = ap (after_bits 8) (sym (parted c)) ∙ above 8 (c / 256) (c % 256)

-- an entry of a table of remainders
entry : (from count i : ℕ) → i < count → get_or (remainders from count) i 0 ≡ after_bits 8 (from + i)
unfolding remainders
entry from zero i h = absurd (omega arith)
entry from (suc count) zero h = let e : from + 0 ≡ from = omega arith in rw e refl
entry from (suc count) (suc i) h = let e : from + suc i ≡ suc from + i = omega arith in rw e (entry (suc from) count i (omega arith))

pub by_table : (table : List ℕ) (c : ℕ) → table ≡ remainders 0 256 → bit_xor (c / 256) (get_or table (c % 256) 0) ≡ after_bits 8 c
by_table table c is =
    let e : get_or (remainders 0 256) (c % 256) 0 ≡ after_bits 8 (0 + c % 256) = entry 0 256 (c % 256) (omega arith) in
    let z : 0 + c % 256 ≡ c % 256 = omega arith in
    ap (λ (t : List ℕ). bit_xor (c / 256) (get_or t (c % 256) 0)) is ∙ ap (bit_xor (c / 256)) (e ∙ ap (after_bits 8) z) ∙ sym (eight_bits c)

-- the table of the code, computed
pub table_is : TABLE ≡ remainders 0 256
unfolding remainders after_bits
table_is = refl
