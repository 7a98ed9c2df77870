-- The greatest common divisor.
use Rattle.std.proofs.Common.{◌≡◌, ℕ, zero, suc, ◌≤◌, ◌<◌, ◌%◌, ◌/◌, ◌*◌, arith, Bool, true, false, refl}
use Rattle.std.specs.Prelude.{◌==◌, if◌then◌else◌}
use Rattle.std.specs.Int.{IsGcd}
use Rattle.std.proofs.lemmas.Nat.Gcd.{IsGcd-from_zero, IsGcd-from_mod}
use Rattle.std.proofs.lemmas.Bool.Decides.{nat_tests}
use Rattle.std.proofs.Math.Nat.{mod-lt, mul-div_cancel'}
use Rattle.prov_types.specs.Spans.{gcd, gcd_in}

gcd_in_is : (n a b : ℕ) → b ≤ n → IsGcd a b (gcd_in n a b)
unfolding gcd_in
gcd_in_is zero a b h = IsGcd-from_zero a b (omega arith)
gcd_in_is (suc n) a b h = by (gcd_in_is n b (a % b)) (b == 0) refl
  where
    by : (a % b ≤ n → IsGcd b (a % b) (gcd_in n b (a % b))) → (t : Bool) → (b == 0) ≡ t → IsGcd a b (if t then a else gcd_in n b (a % b))
    by more true e = IsGcd-from_zero a b (grind (arith, nat_tests))
    by more false e =
        let p : 0 < b = grind (arith, nat_tests) in
        let q = mod-lt a p in
        IsGcd-from_mod a b _ (more (omega arith))

pub gcd_is : (a b : ℕ) → IsGcd a b (gcd a b)
unfolding gcd
gcd_is a b = gcd_in_is b a b (omega arith)

-- it divides both
pub left : (a b : ℕ) → gcd a b * (a / gcd a b) ≡ a
left a b = mul-div_cancel' (gcd a b) (gcd_is a b).0

pub right : (a b : ℕ) → gcd a b * (b / gcd a b) ≡ b
right a b = mul-div_cancel' (gcd a b) (gcd_is a b).1
