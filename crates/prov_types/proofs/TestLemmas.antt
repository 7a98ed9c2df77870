-- The plain test says what a kind means.
use Rattle.std.proofs.Common.{◌≡◌, ℕ, ◌≤◌, ◌+◌, ◌-◌, ◌%◌, ◌/◌, ◌*◌, arith, Bool, true, false, refl, sym, ◌∙◌, ap, subst}
use Rattle.std.specs.Prelude.{◌==◌, ◌&&◌, ◌||◌, nat_le}
use Rattle.std.proofs.lemmas.Bool.Decides.{nat_tests}
use Rattle.std.proofs.lemmas.Nat.{div-add-mod'}
use Rattle.std.proofs.Math.Nat.{add-mul-mod_self_left, mul_comm}
use Rattle.prov_types.specs.declared.kinds.Span.{Span}
use Rattle.prov_types.specs.declared.kinds.Kind.TheVariants.{Any, Num, Ptr, Opt}
use Rattle.prov_types.specs.Spans.{InSpan, IsProper}
use Rattle.prov_types.specs.Kinds.{Regions, HoldsPtr, HoldsOpt, nought, pointed, length_of}
use Rattle.prov_types.specs.Tests.{is_in, is_at, holds, TestIsExact}
use Rattle.prov_types.proofs.BoundLemmas.{one_sided, zero_mod}

-- the parts of a conjunction
left_part : (a b : Bool) → (a && b) ≡ true → a ≡ true
left_part true b h = refl
left_part false b h = absurd cc

right_part : (a b : Bool) → (a && b) ≡ true → b ≡ true
right_part true b h = h
right_part false b h = absurd cc

both : (a b : Bool) → a ≡ true → b ≡ true → (a && b) ≡ true
both a b h k = rw (h, k) refl

in_from : (s : Span) (v : ℕ) → IsProper s → is_in s v ≡ true → InSpan s v
unfolding is_in
in_from s v p h =
    let low_test = left_part (nat_le s.lo v) (nat_le v s.hi && (v - s.lo) % s.by == 0) h in
    let rest = right_part (nat_le s.lo v) (nat_le v s.hi && (v - s.lo) % s.by == 0) h in
    let high_test = left_part (nat_le v s.hi) ((v - s.lo) % s.by == 0) rest in
    let step_test = right_part (nat_le v s.hi) ((v - s.lo) % s.by == 0) rest in
    let low : s.lo ≤ v = grind (arith, nat_tests, low_test) in
    let high : v ≤ s.hi = grind (arith, nat_tests, high_test) in
    let whole : (v - s.lo) % s.by ≡ 0 = grind (arith, nat_tests, step_test) in
    let parts = div-add-mod' (v - s.lo) s.by in
    let at : v ≡ s.lo + (v - s.lo) / s.by * s.by = omega (arith, parts, whole, low) in
    one_sided s v ((v - s.lo) / s.by) p at high

in_to : (s : Span) (v : ℕ) → IsProper s → InSpan s v → is_in s v ≡ true
unfolding is_in
in_to s v p h =
    let a = h.from_lo in
    let b = h.to_hi in
    let low : s.lo ≤ v = omega (arith, a) in
    let high : v ≤ s.hi = omega (arith, b) in
    let gap : v - s.lo ≡ 0 + s.by * h.up = omega (arith, a, mul_comm s.by h.up) in
    let whole : (v - s.lo) % s.by ≡ 0 = ap (λ n. n % s.by) gap ∙ add-mul-mod_self_left 0 s.by h.up ∙ zero_mod s.by p.steps in
    let low_test : nat_le s.lo v ≡ true = grind (arith, nat_tests, low) in
    let high_test : nat_le v s.hi ≡ true = grind (arith, nat_tests, high) in
    let step_test : ((v - s.lo) % s.by == 0) ≡ true = grind (arith, nat_tests, whole) in
    rw (low_test, high_test, step_test) refl

at_from : (g : Regions) (r : ℕ) (s : Span) (v w : ℕ) → IsProper s → is_at g r s v w ≡ true → HoldsPtr g r s v w
unfolding is_at
at_from g r s v w p h =
    let a = left_part (nat_le (g.old r) v) _ h in
    let h' = right_part (nat_le (g.old r) v) _ h in
    let b = left_part (nat_le (g.new r) w) _ h' in
    let h'' = right_part (nat_le (g.new r) w) _ h' in
    let c = left_part (v - g.old r == w - g.new r) _ h'' in
    let h''' = right_part (v - g.old r == w - g.new r) _ h'' in
    let d = left_part (nat_le (v - g.old r) (length_of g.lens r)) _ h''' in
    let e = right_part (nat_le (v - g.old r) (length_of g.lens r)) _ h''' in
    let first : g.old r ≤ v = grind (arith, nat_tests, a) in
    let second : g.new r ≤ w = grind (arith, nat_tests, b) in
    let same : v - g.old r ≡ w - g.new r = grind (arith, nat_tests, c) in
    let inside : v - g.old r ≤ length_of g.lens r = grind (arith, nat_tests, d) in
    record { offset = v - g.old r; old = omega (arith, first); new = omega (arith, second, same); within = in_from s (v - g.old r) p e; inside = inside }

at_to : (g : Regions) (r : ℕ) (s : Span) (v w : ℕ) → IsProper s → HoldsPtr g r s v w → is_at g r s v w ≡ true
unfolding is_at
at_to g r s v w p h =
    let a = h.old in
    let b = h.new in
    let inside = h.inside in
    let is : v - g.old r ≡ h.offset = omega (arith, a) in
    let first : nat_le (g.old r) v ≡ true = let z : g.old r ≤ v = omega (arith, a) in grind (arith, nat_tests, z) in
    let second : nat_le (g.new r) w ≡ true = let z : g.new r ≤ w = omega (arith, b) in grind (arith, nat_tests, z) in
    let same : (v - g.old r == w - g.new r) ≡ true = let z : v - g.old r ≡ w - g.new r = omega (arith, a, b) in grind (arith, nat_tests, z) in
    let low : nat_le (v - g.old r) (length_of g.lens r) ≡ true = let z : v - g.old r ≤ length_of g.lens r = omega (arith, is, inside) in grind (arith, nat_tests, z) in
    let within : is_in s (v - g.old r) ≡ true = subst (λ n. is_in s n ≡ true) (sym is) (in_to s h.offset p h.within) in
    both _ _ first (both _ _ second (both _ _ same (both _ _ low within)))

pub test_exact : TestIsExact
unfolding holds
test_exact g Any v w p = (λ h. tt, λ h. refl)
test_exact g (Num s) v w p = (
  λ h. record { same = let e = left_part (v == w) (is_in s v) h in grind (arith, nat_tests, e); within = in_from s v p (right_part (v == w) (is_in s v) h) },
  λ h. both _ _ (let e = h.same in grind (arith, nat_tests, e)) (in_to s v p h.within),
)
test_exact g (Ptr r s) v w p = (λ h. at_from g r s v w p h, λ h. at_to g r s v w p h)
test_exact g (Opt r s) v w p = (λ h. from (v == 0) (w == 0) refl refl h, to)
  where
    from : (a b : Bool) → (v == 0) ≡ a → (w == 0) ≡ b → ((a && b) || is_at g r s v w) ≡ true → HoldsOpt g r s v w
    from true true e f h = nought (grind (arith, nat_tests)) (grind (arith, nat_tests))
    from true false e f h = pointed (at_from g r s v w p h)
    from false b e f h = pointed (at_from g r s v w p h)

    or_true : (a : Bool) → (a || true) ≡ true
    or_true true = refl
    or_true false = refl

    to : HoldsOpt g r s v w → ((v == 0 && w == 0) || is_at g r s v w) ≡ true
    to (nought e f) = rw (e, f) refl
    to (pointed h) = rw (at_to g r s v w p h) (or_true (v == 0 && w == 0))
