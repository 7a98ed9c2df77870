-- The numbers in a span.
use Rattle.std.proofs.Common.{◌≡◌, ℕ, ◌≤◌, ◌<◌, ◌+◌, ◌-◌, ◌/◌, ◌*◌, ◌^◌, arith, Bool, true, false, refl, sym, ◌∙◌, ap, Some, None}
use Rattle.std.specs.Prelude.{◌==◌, if◌then◌else◌, ◌&&◌, nat_lt}
use Rattle.std.proofs.lemmas.Bool.Decides.{nat_tests}
use Rattle.std.proofs.Math.Nat.{mul_assoc, mul_comm, add-mul, div-mul-le_self}
use Rattle.std.proofs.lemmas.Nat.{and_le_l, and_le_r, pow_pos, le-div}
use Rattle.std.specs.Prelude.{bit_and}
use Rattle.prov_types.specs.declared.kinds.Span.{Span}
use Rattle.prov_types.proofs.Euclid.{left, right}
use Rattle.prov_types.specs.Spans.{InSpan, below, difference, gcd, lowered, made, one, raised, spanning, step_of, sum}

-- so many steps above the low end and below the high one
pub record Between (lo hi step v : ℕ) : Type 0 where
  pub up : ℕ
  pub down : ℕ
  pub from_lo : v ≡ lo + up * step
  pub to_hi : v + down * step ≡ hi

pub steps : (s : Span) (v : ℕ) → InSpan s v → Between s.lo s.hi (step_of s) v
steps s v h = by (s.lo == s.hi) refl
  where
    by : (t : Bool) → (s.lo == s.hi) ≡ t → Between s.lo s.hi (if t then 0 else s.by) v
    by true e =
        let k : s.lo ≡ s.hi = grind (arith, nat_tests) in
        record { up = 0; down = 0; from_lo = omega (arith, h.from_lo, h.to_hi); to_hi = omega (arith, h.from_lo, h.to_hi) }
    by false e = record { up = h.up; down = h.down; from_lo = h.from_lo; to_hi = h.to_hi }

pub spans : (lo hi step v : ℕ) → Between lo hi step v → InSpan (spanning lo hi step) v
spans lo hi step v h = by (step == 0) refl
  where
    by : (t : Bool) → (step == 0) ≡ t → InSpan (record { lo = lo; hi = hi; by = if t then 1 else step }) v
    by true e =
        let k : step ≡ 0 = grind (arith, nat_tests) in
        let a : v ≡ lo + h.up * 0 = rw k at h.from_lo in
        let b : v + h.down * 0 ≡ hi = rw k at h.to_hi in
        record { up = 0; down = 0; from_lo = omega arith; to_hi = omega arith }
    by false e = record { up = h.up; down = h.down; from_lo = h.from_lo; to_hi = h.to_hi }

-- what was made
pub record IsMade (lo hi step : ℕ) (u : Span) : Type 0 where
  pub is : u ≡ spanning lo hi step
  pub fits : hi < 2 ^ 64

pub is_made : (lo hi step : ℕ) (u : Span) → made lo hi step ≡ Some u → IsMade lo hi step u
is_made lo hi step u h = by (nat_lt lo (2 ^ 64)) (nat_lt hi (2 ^ 64)) (nat_lt step (2 ^ 64)) refl h
  where
    by : (p q r : Bool) → nat_lt hi (2 ^ 64) ≡ q → (if p && (q && r) then Some (spanning lo hi step) else None) ≡ Some u → IsMade lo hi step u
    by true true true e k = record { is = cc; fits = grind (arith, nat_tests) }
    by true true false e k = absurd cc
    by true false r e k = absurd cc
    by false q r e k = absurd cc

-- a step that is a multiple of g
multiple : (g m step k : ℕ) → g * m ≡ step → k * step ≡ k * m * g
multiple g m step k e = ap (λ n. k * n) (sym e ∙ mul_comm g m) ∙ sym (mul_assoc k m g)

pub sum_in : (s t u : Span) (a b : ℕ) → InSpan s a → InSpan t b → sum s t ≡ Some u → InSpan u (a + b) × (a + b ≤ u.hi) × (u.hi < 2 ^ 64)
unfolding sum
sum_in s t u a b p q e =
    let m = is_made _ _ _ u e in
    let g = gcd (step_of s) (step_of t) in
    let i = steps s a p in
    let j = steps t b q in
    let x = step_of s / g in
    let y = step_of t / g in
    let between : Between (s.lo + t.lo) (s.hi + t.hi) g (a + b) = record {
      up = i.up * x + j.up * y;
      down = i.down * x + j.down * y;
      from_lo = omega (arith, i.from_lo, j.from_lo, multiple g x (step_of s) i.up (left (step_of s) (step_of t)), multiple g y (step_of t) j.up (right (step_of s) (step_of t)), add-mul (i.up * x) (j.up * y) g);
      to_hi = omega (arith, i.to_hi, j.to_hi, multiple g x (step_of s) i.down (left (step_of s) (step_of t)), multiple g y (step_of t) j.down (right (step_of s) (step_of t)), add-mul (i.down * x) (j.down * y) g);
    } in
    rw (m.is) (spans _ _ g _ between, omega (arith, i.to_hi, j.to_hi), m.fits)

pub record DifferenceIn (s t u : Span) (a b : ℕ) : Type 0 where
  pub within : InSpan u (a - b)
  pub order : b ≤ a
  pub top : a - b ≤ u.hi
  pub fits : u.hi < 2 ^ 64

pub difference_in : (s t u : Span) (a b : ℕ) → InSpan s a → InSpan t b → difference s t ≡ Some u → DifferenceIn s t u a b
unfolding difference
difference_in s t u a b p q = by (nat_lt s.lo t.hi) refl
  where
    by : (c : Bool) → nat_lt s.lo t.hi ≡ c → (if c then None else made (s.lo - t.hi) (s.hi - t.lo) (gcd (step_of s) (step_of t))) ≡ Some u → DifferenceIn s t u a b
    by true d e = absurd cc
    by false d e =
        let far : t.hi ≤ s.lo = grind (arith, nat_tests) in
        let m = is_made _ _ _ u e in
        let g = gcd (step_of s) (step_of t) in
        let i = steps s a p in
        let j = steps t b q in
        let x = step_of s / g in
        let y = step_of t / g in
        let between : Between (s.lo - t.hi) (s.hi - t.lo) g (a - b) = record {
          up = i.up * x + j.down * y;
          down = i.down * x + j.up * y;
          from_lo = omega (arith, i.from_lo, j.to_hi, multiple g x (step_of s) i.up (left (step_of s) (step_of t)), multiple g y (step_of t) j.down (right (step_of s) (step_of t)), add-mul (i.up * x) (j.down * y) g);
          to_hi = omega (arith, i.from_lo, i.to_hi, j.from_lo, j.to_hi, multiple g x (step_of s) i.down (left (step_of s) (step_of t)), multiple g y (step_of t) j.up (right (step_of s) (step_of t)), add-mul (i.down * x) (j.up * y) g);
        } in
        rw (m.is) (record { within = spans _ _ g _ between; order = omega (arith, i.from_lo, j.to_hi); top = omega (arith, i.to_hi, j.from_lo); fits = m.fits })

-- k steps of a step, each multiplied
scaled : (lo k step p : ℕ) → (lo + k * step) * p ≡ lo * p + k * (step * p)
scaled lo k step p = add-mul lo (k * step) p ∙ ap (λ n. lo * p + n) (mul_assoc k step p)

pub raised_in : (s u : Span) (a k : ℕ) → InSpan s a → raised s k ≡ Some u → InSpan u (a * 2 ^ k) × (a * 2 ^ k ≤ u.hi) × (u.hi < 2 ^ 64)
unfolding raised
raised_in s u a k p e =
    let m = is_made _ _ _ u e in
    let i = steps s a p in
    let from = ap (λ n. n * 2 ^ k) i.from_lo ∙ scaled s.lo i.up (step_of s) (2 ^ k) in
    let to = sym (scaled a i.down (step_of s) (2 ^ k)) ∙ ap (λ n. n * 2 ^ k) i.to_hi in
    let between : Between (s.lo * 2 ^ k) (s.hi * 2 ^ k) (step_of s * 2 ^ k) (a * 2 ^ k) = record { up = i.up; down = i.down; from_lo = from; to_hi = to } in
    rw (m.is) (spans _ _ (step_of s * 2 ^ k) _ between, omega (arith, to), m.fits)

-- each number between the ends
pub by_one : (lo hi v : ℕ) → lo ≤ v → v ≤ hi → InSpan (spanning lo hi 1) v
by_one lo hi v h k = record { up = v - lo; down = hi - v; from_lo = omega arith; to_hi = omega arith }

pub ends : (s : Span) (a : ℕ) → InSpan s a → (s.lo ≤ a) × (a ≤ s.hi)
ends s a p = (omega (arith, p.from_lo), omega (arith, p.to_hi))

pub divided : (a b k : ℕ) → a ≤ b → a / 2 ^ k ≤ b / 2 ^ k
divided a b k h = le-div (a / 2 ^ k) b (2 ^ k) (pow_pos k) (omega (arith, div-mul-le_self a (2 ^ k)))

pub lowered_in : (s : Span) (a k : ℕ) → InSpan s a → InSpan (lowered s k) (a / 2 ^ k)
unfolding lowered
lowered_in s a k p = let e = ends s a p in by_one _ _ _ (divided s.lo a k e.0) (divided a s.hi k e.1)

pub below_in : (s : Span) (a m : ℕ) → InSpan s a → InSpan (below s m) (bit_and a m)
unfolding below
below_in s a m p = let e = ends s a p in by_one 0 _ _ (omega arith) (omega (arith, e.1, and_le_l a m, and_le_r a m))

pub one_in : (v : ℕ) → InSpan (one v) v
one_in v = record { up = 0; down = 0; from_lo = omega arith; to_hi = omega arith }

pub test_in : (v : ℕ) → v ≤ 1 → InSpan (spanning 0 1 1) v
test_in v h = by_one 0 1 v (omega arith) h
