-- When every value of one kind is of another.
use Rattle.std.specs.Prelude.{◌-◌, ◌%◌, ◌==◌, ◌&&◌, not, nat_lt, Bool, true, false}
use Rattle.prov_types.specs.declared.kinds.Span.{Span}
use Rattle.prov_types.specs.declared.kinds.Kind.{Kind}
use Rattle.prov_types.specs.declared.kinds.Kind.TheVariants.{Any, Num, Ptr, Opt}
use Rattle.prov_types.specs.Spans.{step_of}

-- A span is inside another where its ends are, and the other's step divides its own and the distance of the low ends.
unfoldable pub inside : Span → Span → Bool
inside s t = not (nat_lt s.lo t.lo) && (not (nat_lt t.hi s.hi) && (step_of s % t.by == 0 && (s.lo - t.lo) % t.by == 0))

-- the value 0 alone
abbrev pub is_null : Span → Bool
is_null s = s.lo == 0 && s.hi == 0

unfoldable pub fits : Kind → Kind → Bool
fits a Any = true
fits (Num s) (Num t) = inside s t
fits (Ptr r s) (Ptr q t) = r == q && inside s t
fits (Opt r s) (Opt q t) = r == q && inside s t
fits (Ptr r s) (Opt q t) = r == q && inside s t
fits (Num s) (Opt q t) = is_null s
fits _ _ = false
