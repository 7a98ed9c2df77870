-- Which loads and stores are allowed.
use Rattle.std.specs.Prelude.{ℕ, ◌+◌, ◌%◌, ◌==◌, ◌&&◌, nat_le, not, Bool, List, Option, Some, None, if◌then◌else◌, slice_index}
use Rattle.rv_step.specs.declared.bus.Access.TheVariants as access
use Rattle.rv_step.specs.Exec.{Rights}
use Rattle.prov_types.specs.declared.kinds.Span.{Span}
use Rattle.prov_types.specs.declared.kinds.Kind.{Kind}
use Rattle.prov_types.specs.Kinds.{length_of}
use Rattle.prov_cert.specs.declared.cert.StackPart.{StackPart}
use Rattle.prov_layout.specs.Offsets.{at_each, every}
use Rattle.prov_layout.specs.Pieces.{is_shut, piece_at, shown}
use Rattle.prov_layout.specs.Loads.{span_kind}
use Rattle.prov_layout.specs.Stores.{store_keeps}
use Rattle.prov_layout.specs.Stack.{part_kind}
use Rattle.provenance_check.specs.Ground.{Ground}

-- so many bytes of a region from an offset on are inside it, and each has the right
abbrev pub is_allowed : Ground → (ℕ → Bool) → (r width o : ℕ) → Bool
is_allowed g right r width o = nat_le (o + width) (length_of g.lens r) && every right (slice_index g.starts r + o) 1 width

-- In the stack: at one offset, a multiple of the width.
unfoldable pub stack_allows : Ground → (ℕ → Bool) → Span → (width : ℕ) → Bool
stack_allows g right s width = s.lo == s.hi && (s.lo % width == 0 && is_allowed g right 1 width s.lo)

-- what loads at each offset of a span of a region other than the stack give, none where one isn't allowed
unfoldable pub loaded_outside : Ground → Rights → (notified : Bool) → (done : List ℕ) → (r : ℕ) → Span → (width : ℕ) → Option Kind
loaded_outside g allows notified done r s width =
    if at_each (is_allowed g (allows access.Load) r width) s then span_kind (shown (is_shut notified done) g.pieces r) s width else None

-- what loads at each offset of a span give, none where one isn't allowed
unfoldable pub loaded : Ground → Rights → (notified : Bool) → (done : List ℕ) → List StackPart → (r : ℕ) → Span → (width : ℕ) → Option Kind
loaded g allows notified done parts r s width =
    if r == 1 then (if stack_allows g (allows access.Load) s width then Some (part_kind parts s.lo width) else None)
    else loaded_outside g allows notified done r s width

-- a store of a kind at an offset is allowed, and keeps what is there
unfoldable pub stores_at : Ground → Rights → (r width : ℕ) → Kind → ℕ → Bool
stores_at g allows r width kind o = is_allowed g (allows access.Store) r width o && store_keeps (piece_at g.pieces r) o width kind

-- Stores at each offset of a span. A notified function stores to the stack alone.
unfoldable pub stores : Ground → Rights → (notified : Bool) → (r : ℕ) → Span → (width : ℕ) → Kind → Bool
stores g allows notified r s width kind =
    if r == 1 then stack_allows g (allows access.Store) s width
    else (not notified && at_each (stores_at g allows r width kind) s)
