-- The least kind that two kinds fit.
use Rattle.std.specs.Prelude.{ℕ, ◌-◌, ◌==◌, nat_le, min, max, Option, Some, None, if◌then◌else◌}
use Rattle.prov_types.specs.declared.kinds.Span.{Span}
use Rattle.prov_types.specs.declared.kinds.Kind.{Kind}
use Rattle.prov_types.specs.declared.kinds.Kind.TheVariants.{Any, Num, Ptr, Opt}
use Rattle.prov_types.specs.Spans.{step_of, spanning, gcd}
use Rattle.prov_types.specs.Fits.{is_null}

abbrev pub distance : ℕ → ℕ → ℕ
distance a b = if nat_le a b then b - a else a - b

-- from the lower of the low ends to the higher of the high ends, by the greatest step that leads to the numbers of both
unfoldable pub join_spans : Span → Span → Span
join_spans s t = spanning (min s.lo t.lo) (max s.hi t.hi) (gcd (gcd (step_of s) (step_of t)) (distance s.lo t.lo))

abbrev pub region_join : (ℕ → Span → Kind) → (r q : ℕ) → Span → Span → Kind
region_join f r q s t = if r == q then f r (join_spans s t) else Any

-- what may be 0, of 0 and an address
abbrev pub or_null : Span → ℕ → Span → Kind
or_null nought r s = if is_null nought then Opt r s else Any

-- the least kind that both fit
unfoldable pub join : Kind → Kind → Kind
join (Num s) (Num t) = Num (join_spans s t)
join (Ptr r s) (Ptr q t) = region_join Ptr r q s t
join (Opt r s) (Opt q t) = region_join Opt r q s t
join (Ptr r s) (Opt q t) = region_join Opt r q s t
join (Opt r s) (Ptr q t) = region_join Opt r q s t
join (Num s) (Ptr q t) = or_null s q t
join (Num s) (Opt q t) = or_null s q t
join (Ptr r s) (Num t) = or_null t r s
join (Opt r s) (Num t) = or_null t r s
join _ _ = Any

-- of two accesses that are both allowed
abbrev pub both : Option Kind → Option Kind → Option Kind
both (Some a) (Some b) = Some (join a b)
both _ _ = None
