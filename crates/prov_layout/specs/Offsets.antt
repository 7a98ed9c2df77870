-- Tests at many offsets.
use Rattle.std.specs.Prelude.{ℕ, zero, suc, ◌+◌, ◌-◌, ◌/◌, ◌&&◌, nat_le, Bool, true}
use Rattle.prov_types.specs.declared.kinds.Span.{Span}

-- a test at n numbers from lo on
unfoldable pub every : (ℕ → Bool) → (lo by n : ℕ) → Bool
every test lo by zero = true
every test lo by (suc n) = test lo && every test (lo + by) by n

-- how many numbers a span has
abbrev pub count : Span → ℕ
count s = (s.hi - s.lo) / s.by + 1

-- a test at each number of a span that has at most 65,536
unfoldable pub at_each : (ℕ → Bool) → Span → Bool
at_each test s = nat_le (count s) 65536 && every test s.lo s.by (count s)
