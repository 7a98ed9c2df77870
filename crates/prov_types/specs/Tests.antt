-- The plain test of what a kind holds of.
use Rattle.std.specs.Prelude.{ℕ, ◌≡◌, ◌-◌, ◌%◌, ◌==◌, ◌&&◌, ◌||◌, nat_le, Bool, true}
use Rattle.prov_types.specs.declared.kinds.Span.{Span}
use Rattle.prov_types.specs.declared.kinds.Kind.{Kind}
use Rattle.prov_types.specs.declared.kinds.Kind.TheVariants.{Any, Num, Ptr, Opt}
use Rattle.prov_types.specs.Kinds.{Regions, Holds, IsProperKind, length_of}

-- the number is in the span
unfoldable pub is_in : Span → ℕ → Bool
is_in s v = nat_le s.lo v && (nat_le v s.hi && (v - s.lo) % s.by == 0)

-- both are one offset of the region
unfoldable pub is_at : Regions → ℕ → Span → (v w : ℕ) → Bool
is_at g r s v w = nat_le (g.old r) v && (nat_le (g.new r) w && (v - g.old r == w - g.new r && (nat_le (v - g.old r) (length_of g.lens r) && is_in s (v - g.old r))))

unfoldable pub holds : Regions → Kind → (v w : ℕ) → Bool
holds g Any v w = true
holds g (Num s) v w = v == w && is_in s v
holds g (Ptr r s) v w = is_at g r s v w
holds g (Opt r s) v w = (v == 0 && w == 0) || is_at g r s v w

-- what the test says
abbrev pub TestIsExact : Type 0
TestIsExact = (g : Regions) (kind : Kind) (v w : ℕ) → IsProperKind kind
    → (holds g kind v w ≡ true → Holds g kind v w) × (Holds g kind v w → holds g kind v w ≡ true)
