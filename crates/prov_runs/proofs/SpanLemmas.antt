-- The numbers in a span.
use Rattle.std.proofs.Common.{◌≡◌, ℕ, ◌≤◌, ◌+◌, ◌-◌, ◌/◌, ◌*◌, arith, Bool, true, false, refl}
use Rattle.std.specs.Prelude.{◌==◌, if◌then◌else◌}
use Rattle.std.proofs.lemmas.Bool.Decides.{nat_tests}
use Rattle.std.proofs.lemmas.Nat.{div-add-mod'}
use Rattle.prov_types.specs.declared.kinds.Span.{Span}
use Rattle.prov_types.specs.declared.kinds.Kind.{Kind}
use Rattle.prov_types.specs.declared.kinds.Kind.TheVariants.{Any, Num, Ptr, Opt}
use Rattle.prov_types.specs.Kinds.{IsProperKind}
use Rattle.prov_types.specs.Spans.{InSpan, IsProper, spanning, step_of}

-- so many steps above the low end and below the high one
pub record Between (lo hi step v : ℕ) : Type 0 where
  pub up : ℕ
  pub down : ℕ
  pub from_lo : v ≡ lo + up * step
  pub to_hi : v + down * step ≡ hi

pub steps : (s : Span) (v : ℕ) → InSpan s v → Between s.lo s.hi (step_of s) v
steps s v h = by (s.lo == s.hi) refl
  where
    by : (t : Bool) → (s.lo == s.hi) ≡ t → Between s.lo s.hi (if t then 0 else s.by) v
    by true e =
        let k : s.lo ≡ s.hi = grind (arith, nat_tests) in
        record { up = 0; down = 0; from_lo = omega (arith, h.from_lo, h.to_hi); to_hi = omega (arith, h.from_lo, h.to_hi) }
    by false e = record { up = h.up; down = h.down; from_lo = h.from_lo; to_hi = h.to_hi }

pub spans : (lo hi step v : ℕ) → Between lo hi step v → InSpan (spanning lo hi step) v
spans lo hi step v h = by (step == 0) refl
  where
    by : (t : Bool) → (step == 0) ≡ t → InSpan (record { lo = lo; hi = hi; by = if t then 1 else step }) v
    by true e =
        let k : step ≡ 0 = grind (arith, nat_tests) in
        let a : v ≡ lo + h.up * 0 = rw k at h.from_lo in
        let b : v + h.down * 0 ≡ hi = rw k at h.to_hi in
        record { up = 0; down = 0; from_lo = omega arith; to_hi = omega arith }
    by false e = record { up = h.up; down = h.down; from_lo = h.from_lo; to_hi = h.to_hi }

-- each number between the ends
pub by_one : (lo hi v : ℕ) → lo ≤ v → v ≤ hi → InSpan (spanning lo hi 1) v
by_one lo hi v h k = record { up = v - lo; down = hi - v; from_lo = omega arith; to_hi = omega arith }

pub ends : (s : Span) (a : ℕ) → InSpan s a → (s.lo ≤ a) × (a ≤ s.hi)
ends s a p = (omega (arith, p.from_lo), omega (arith, p.to_hi))

-- the ends are whole steps apart
abbrev pub IsWhole : Span → Type 0
IsWhole s = InSpan s s.lo

abbrev pub IsWholeKind : Kind → Type 0
IsWholeKind Any = Unit {0}
IsWholeKind (Num s) = IsWhole s
IsWholeKind (Ptr r s) = IsWhole s
IsWholeKind (Opt r s) = IsWhole s

pub whole_span : (s : Span) → IsProper s → IsWhole s
whole_span s h =
    let a = h.order in
    let b = h.whole in
    let c = div-add-mod' (s.hi - s.lo) s.by in
    record { up = 0; down = (s.hi - s.lo) / s.by; from_lo = omega arith; to_hi = omega (arith, a, b, c) }

pub whole_kind : (k : Kind) → IsProperKind k → IsWholeKind k
whole_kind Any h = tt
whole_kind (Num s) h = whole_span s h
whole_kind (Ptr r s) h = whole_span s h
whole_kind (Opt r s) h = whole_span s h
