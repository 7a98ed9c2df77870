-- Tests at the numbers from 0 on.
use Rattle.std.proofs.Common.{◌≡◌, ℕ, ◌<◌, ◌+◌, ◌*◌, arith, Bool, true, false, ◌∙◌, ap}
use Rattle.prov_layout.specs.Offsets.{every}
use Rattle.prov_layout.specs.Laws.{EachPasses, OneFails}

pub all_below : EachPasses → (test : ℕ → Bool) (n : ℕ) → ((i : ℕ) → i < n → test i ≡ true) → every test 0 1 n ≡ true
all_below each test n h = each test 0 1 n (λ i k. let z : 0 + i * 1 ≡ i = omega arith in ap test z ∙ h i k)

pub one_below : OneFails → (test : ℕ → Bool) (n i : ℕ) → i < n → test i ≡ false → every test 0 1 n ≡ false
one_below fails test n i k e = fails test 0 1 n i k (let z : 0 + i * 1 ≡ i = omega arith in ap test z ∙ e)
