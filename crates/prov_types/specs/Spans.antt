-- Spans: the numbers from a low end to a high end by equal steps, and what arithmetic makes of them.
use Rattle.std.specs.Prelude.{ℕ, zero, suc, ◌≡◌, ◌+◌, ◌-◌, ◌*◌, ◌/◌, ◌%◌, ◌^◌, ◌<◌, ◌≤◌, ◌==◌, ◌&&◌, nat_lt, min, Option, Some, None, if◌then◌else◌}
use Rattle.prov_types.specs.declared.kinds.Span.{Span}

-- the high end is a number of whole steps above the low one
pub record IsProper (s : Span) : Type 0 where
  pub steps : 0 < s.by
  pub order : s.lo ≤ s.hi
  pub whole : (s.hi - s.lo) % s.by ≡ 0

-- A number in a span: so many steps above the low end, and so many below the high end.
pub record InSpan (s : Span) (v : ℕ) : Type 0 where
  pub up : ℕ
  pub down : ℕ
  pub from_lo : v ≡ s.lo + up * s.by
  pub to_hi : v + down * s.by ≡ s.hi

-- Euclid's algorithm; `b` steps are enough
unfoldable pub gcd_in : ℕ → ℕ → ℕ → ℕ
gcd_in zero a b = a
gcd_in (suc n) a b = if b == 0 then a else gcd_in n b (a % b)

-- the greatest common divisor
unfoldable pub gcd : ℕ → ℕ → ℕ
gcd a b = gcd_in b a b

-- the step; one value has step 0
abbrev pub step_of : Span → ℕ
step_of s = if s.lo == s.hi then 0 else s.by

-- the span with these ends and this step; where the step is 0, as of one value, it is written as 1
abbrev pub spanning : (lo hi step : ℕ) → Span
spanning lo hi step = record { lo = lo; hi = hi; by = if step == 0 then 1 else step }

-- one value
abbrev pub one : ℕ → Span
one v = spanning v v 0

-- every number of 64 bits
abbrev pub whole : Span
whole = record { lo = 0; hi = 2 ^ 64 - 1; by = 1 }

-- the span with these ends and this step, none where it leaves 0 to 2^64 - 1
abbrev pub made : (lo hi step : ℕ) → Option Span
made lo hi step = if nat_lt lo (2 ^ 64) && (nat_lt hi (2 ^ 64) && nat_lt step (2 ^ 64)) then Some (spanning lo hi step) else None

-- the sums of a number of one span and a number of another, none where one of them could wrap
unfoldable pub sum : Span → Span → Option Span
sum s t = made (s.lo + t.lo) (s.hi + t.hi) (gcd (step_of s) (step_of t))

-- the differences, none where one of them could wrap
unfoldable pub difference : Span → Span → Option Span
difference s t = if nat_lt s.lo t.hi then None else made (s.lo - t.hi) (s.hi - t.lo) (gcd (step_of s) (step_of t))

-- shifted left by `k`, none where a bit could be lost
unfoldable pub raised : Span → ℕ → Option Span
raised s k = made (s.lo * 2 ^ k) (s.hi * 2 ^ k) (step_of s * 2 ^ k)

-- shifted right by `k`
unfoldable pub lowered : Span → ℕ → Span
lowered s k = spanning (s.lo / 2 ^ k) (s.hi / 2 ^ k) 1

-- the numbers that are above neither `m` nor the span
unfoldable pub below : Span → ℕ → Span
below s m = spanning 0 (min s.hi m) 1
