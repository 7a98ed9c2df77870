-- The highest fit.
use Rattle.std.proofs.Common.{◌≡◌, ◌≢◌, ℕ, zero, suc, ◌+◌, ◌-◌, ◌*◌, ◌/◌, ◌<◌, ◌≤◌, ◌^◌, length, refl, sym, ap, ◌∙◌, arith, Bool, true, false, ◌⊎◌, inl, inr}
use Rattle.std.specs.Prelude.{◌&&◌, ◌==◌, nat_le, Option, Some, None}
use Rattle.std.specs.Option.{IfSome, OnSome}
use Rattle.std.proofs.lemmas.Bool.Decides.{nat_tests}
use Rattle.page_alloc.specs.Pages.{PageList, Whole, all_from, is_conventional}
use Rattle.page_alloc.specs.Fit.{highest, IsHighest, is_fit, is_room, meets, fit, FitIsHighest}
use Rattle.page_alloc.proofs.PageLemmas.{Passes, all_from_tells, and_true}

-- a test holds or doesn't
pub tells : (b : Bool) → (b ≡ true) ⊎ (b ≡ false)
tells true = inl refl
tells false = inr refl

-- no number from the bound on passes
pub found : (test : ℕ → Bool) (bound : ℕ) → ((n : ℕ) → test n ≡ true → n < bound) → IsHighest test (highest test bound)
unfolding highest
found test zero below = λ n. elim (tells (test n)) [ inl holds ↦ absurd (let h = below n holds in omega (arith, h)) | inr fails ↦ fails ]
found test (suc bound) below = elim (tells (test bound)) [
  | inl holds ↦ rw holds (holds, λ n h. let l = below n h in omega (arith, l))
  | inr fails ↦ rw fails (found test bound (λ n h. let l = below n h in let apart : n ≢ bound = (λ e. absurd (let t : test bound ≡ true = rw (← e) h in cc)) in omega (arith, l, apart)))
]

pub one_highest : (test : ℕ → Bool) (a b : Option ℕ) → IsHighest test a → IsHighest test b → a ≡ b
one_highest test None None h k = refl
one_highest test None (Some b) h k = absurd (let n = h b in let y = k.0 in cc)
one_highest test (Some a) None h k = absurd (let n = k a in let y = h.0 in cc)
one_highest test (Some a) (Some b) h k = ap Some (let l = h.1 b k.0 in let m = k.1 a h.0 in omega arith)

pub highest_of_same : (f g : ℕ → Bool) (r : Option ℕ) → ((n : ℕ) → f n ≡ g n) → IsHighest f r → IsHighest g r
highest_of_same f g None same h = λ n. sym (same n) ∙ h n
highest_of_same f g (Some best) same h = (sym (same best) ∙ h.0, λ n y. h.1 n (same n ∙ y))

fit_is_highest : (m : PageList) (kind at count : ℕ) → 0 < count → IsHighest (is_fit m kind at count) (fit m kind at count)
unfolding fit is_fit
fit_is_highest m kind at count some = found (is_fit m kind at count) (length m.pages) (λ n h.
    let p = (all_from_tells is_conventional m.pages n count).0 (and_true _ _ h).0 in let i = p.inside in omega (arith, i))

pub fits_are_highest : FitIsHighest
fits_are_highest = fit_is_highest

-- a room that ends at most at a limit, for each kind
and_same : (a b c : Bool) → (a ≡ true → b ≡ c) → (a && b) ≡ (a && c)
and_same true b c h = h refl
and_same false b c h = refl

inside : (m : PageList) (count n : ℕ) → all_from is_conventional m.pages n count ≡ true → n + count ≤ length m.pages
inside m count n h = ((all_from_tells is_conventional m.pages n count).0 h).inside

any_same : (m : PageList) (at count n : ℕ) → is_room m.pages count 0 (length m.pages) n ≡ is_fit m 0 at count n
unfolding is_room is_fit meets
any_same m at count n = and_same (all_from is_conventional m.pages n count) (nat_le 0 n && nat_le (n + count) (length m.pages)) true (λ h. let i = inside m count n h in grind (arith, nat_tests))

below_same : (m : PageList) (at count n : ℕ) → 0 < count → is_room m.pages count 0 ((at + 1 - m.base) / 4096) n ≡ is_fit m 1 at count n
unfolding is_room is_fit meets
below_same m at count n some = and_same (all_from is_conventional m.pages n count) (nat_le 0 n && nat_le (n + count) ((at + 1 - m.base) / 4096)) (nat_le (m.base + 4096 * (n + count)) (at + 1)) (λ h. grind (arith, nat_tests))

here_same : (m : PageList) (at count start n : ℕ) → m.base + 4096 * start ≡ at → is_room m.pages count start (start + count) n ≡ is_fit m 2 at count n
unfolding is_room is_fit meets
here_same m at count start n e = and_same (all_from is_conventional m.pages n count) (nat_le start n && nat_le (n + count) (start + count)) (m.base + 4096 * n == at) (λ h. grind (arith, nat_tests))

pub fit_any : (m : PageList) (kind at count limit : ℕ) (r : Option ℕ) → 0 < count → kind ≡ 0 → limit ≡ length m.pages → IsHighest (is_room m.pages count 0 limit) r → r ≡ fit m kind at count
fit_any m kind at count limit r some k l h =
    rw k (one_highest (is_fit m 0 at count) r (fit m 0 at count) (highest_of_same _ _ r (any_same m at count) (rw l at h)) (fit_is_highest m 0 at count some))

pub fit_below : (m : PageList) (kind at count limit : ℕ) (r : Option ℕ) → 0 < count → kind ≡ 1 → limit ≡ (at + 1 - m.base) / 4096 → IsHighest (is_room m.pages count 0 limit) r → r ≡ fit m kind at count
fit_below m kind at count limit r some k l h =
    rw k (one_highest (is_fit m 1 at count) r (fit m 1 at count) (highest_of_same _ _ r (λ n. below_same m at count n some) (rw l at h)) (fit_is_highest m 1 at count some))

pub fit_here : (m : PageList) (at count start : ℕ) (r : Option ℕ) → 0 < count → m.base + 4096 * start ≡ at → IsHighest (is_room m.pages count start (start + count)) r → r ≡ fit m 2 at count
fit_here m at count start r some e h =
    one_highest (is_fit m 2 at count) r (fit m 2 at count) (highest_of_same _ _ r (λ n. here_same m at count start n e) h) (fit_is_highest m 2 at count some)

pub fit_too_many : (m : PageList) (kind at count : ℕ) → length m.pages < count → None ≡ fit m kind at count
unfolding is_fit
fit_too_many m kind at count over = one_highest (is_fit m kind at count) None (fit m kind at count)
    (λ n. elim (tells (is_fit m kind at count n)) [ inr no_fit ↦ no_fit | inl fits ↦ absurd (let i = inside m count n (and_true _ _ fits).0 in omega (arith, i)) ])
    (fit_is_highest m kind at count (omega arith))

-- a fit at an address begins there
at_start : (m : PageList) (at count n : ℕ) → is_fit m 2 at count n ≡ true → (all_from is_conventional m.pages n count ≡ true) × (m.base + 4096 * n ≡ at)
unfolding is_fit meets
at_start m at count n h = let p = and_true _ _ h in let q : (m.base + 4096 * n == at) ≡ true = p.1 in (p.0, grind (arith, nat_tests))

pub fit_no_start : (m : PageList) (at count : ℕ) → 0 < count → ((n : ℕ) → m.base + 4096 * n ≡ at → ⊥) → None ≡ fit m 2 at count
fit_no_start m at count some never = one_highest (is_fit m 2 at count) None (fit m 2 at count)
    (λ n. elim (tells (is_fit m 2 at count n)) [ inr no_fit ↦ no_fit | inl fits ↦ absurd (never n (at_start m at count n fits).1) ])
    (fit_is_highest m 2 at count some)

pub fit_inside : (m : PageList) (kind at count start : ℕ) → 0 < count → fit m kind at count ≡ Some start → Passes is_conventional m.pages start count
unfolding is_fit
fit_inside m kind at count start some e =
    let g = fit_is_highest m kind at count some in
    let h : IsHighest (is_fit m kind at count) (Some start) = rw e at g in
    (all_from_tells is_conventional m.pages start count).0 (and_true _ _ h.0).0

pub fit_ends : (m : PageList) (kind at count : ℕ) (r : Option ℕ) → 0 < count → r ≡ fit m kind at count → IfSome r (λ start. start + count ≤ length m.pages)
fit_ends m kind at count None some e = tt
fit_ends m kind at count (Some start) some e = (fit_inside m kind at count start some (sym e)).inside

pub fit_few : (m : PageList) (kind at count : ℕ) (r : Option ℕ) → Whole m → 0 < count → r ≡ fit m kind at count → OnSome r (count < 2 ^ 32)
fit_few m kind at count None whole some e = tt
fit_few m kind at count (Some start) whole some e = let i = (fit_inside m kind at count start some (sym e)).inside in let most = whole.ram.most in omega arith
