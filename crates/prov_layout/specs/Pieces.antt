-- The bytes of regions by their class: pieces of them, each of one class. A byte in no piece is closed.
use Rattle.std.specs.Prelude.{ℕ, zero, suc, ◌≡◌, ◌+◌, ◌<◌, ◌≤◌, ◌⊎◌, ◌==◌, ◌&&◌, ◌||◌, nat_le, nat_lt, Bool, true, false, List, [], ◌∷◌, Option, Some, None, if◌then◌else◌, slice_get}
use Rattle.std.specs.List.{list_any}
use Rattle.prov_types.specs.Kinds.{IsProperKind, length_of}
use Rattle.prov_layout.specs.declared.piece.Class.{Class}
use Rattle.prov_layout.specs.declared.piece.Class.TheVariants.{Code, Plain, Number, Fixed, Convert}
use Rattle.prov_layout.specs.declared.piece.Piece.{Piece}

-- a piece has the byte of a region at an offset
abbrev pub has_byte : Piece → (r o : ℕ) → Bool
has_byte p r o = p.region == r && (nat_le p.at o && nat_lt o (p.at + p.len))

-- a piece begins behind the byte of a region at an offset, in the order of regions
abbrev pub begins_behind : Piece → (r o : ℕ) → Bool
begins_behind p r o = nat_lt r p.region || r == p.region && nat_lt o p.at

-- the piece of a byte, none where it is closed
unfoldable pub piece_at : List Piece → (r o : ℕ) → Option Piece
piece_at [] r o = None
piece_at (p ∷ ps) r o = if has_byte p r o then Some p else piece_at ps r o

abbrev pub is_of : (Class → Bool) → Option Piece → Bool
is_of test None = false
is_of test (Some p) = test p.class

-- Of a region's bytes by their offset: each of so many, from an offset on, is in a piece whose class passes a test.
unfoldable pub all_of : (Class → Bool) → (ℕ → Option Piece) → (o n : ℕ) → Bool
all_of test at o zero = true
all_of test at o (suc n) = is_of test (at o) && all_of test at (o + 1) n

-- so many bytes from an offset on are just those of a piece
abbrev pub is_exactly : (o width : ℕ) → Piece → Bool
is_exactly o width p = p.at == o && p.len == width

abbrev pub is_code : Class → Bool
is_code Code = true
is_code _ = false

abbrev pub is_plain : Class → Bool
is_plain Plain = true
is_plain _ = false

-- bytes that are the same in both runs and that a load of any width may read
abbrev pub is_open : Class → Bool
is_open Plain = true
is_open (Number kind) = true
is_open _ = false

-- one of the convertible cells with these numbers
abbrev pub is_cell_among : List ℕ → Class → Bool
is_cell_among done (Convert kind cell) = list_any (λ c. c == cell) done
is_cell_among done _ = false

-- What a node may not load: one of a call nothing of region 4, the system page; one of a notified function none of the cells
-- that are converted when it is reached.
abbrev pub is_shut : (notified : Bool) → (done : List ℕ) → Piece → Bool
is_shut notified done p = if notified then is_cell_among done p.class else p.region == 4

abbrev pub unless_shut : (Piece → Bool) → Option Piece → Option Piece
unless_shut shut None = None
unless_shut shut (Some p) = if shut p then None else Some p

-- the piece of a byte for what may not load all pieces
abbrev pub shown : (Piece → Bool) → List Piece → (r o : ℕ) → Option Piece
shown shut pieces r o = unless_shut shut (piece_at pieces r o)

abbrev pub IsProperClass : Class → Type 0
IsProperClass (Number kind) = IsProperKind kind
IsProperClass (Fixed kind) = IsProperKind kind
IsProperClass (Convert kind cell) = IsProperKind kind
IsProperClass _ = Unit {0}

-- a piece ends where another begins or before, which is in the same region or in one of a greater number
abbrev pub IsBefore : Piece → Piece → Type 0
IsBefore p q = (p.region < q.region) ⊎ ((p.region ≡ q.region) × (p.at + p.len ≤ q.at))

-- Pieces in the order of their places, of which no two have a byte in common.
pub record AreOrdered (pieces : List Piece) : Type 0 where
  pub rise : (i j : ℕ) (p q : Piece) → slice_get pieces i ≡ Some p → slice_get pieces j ≡ Some q → i < j → IsBefore p q
  pub proper : (i : ℕ) (p : Piece) → slice_get pieces i ≡ Some p → IsProperClass p.class

-- each piece is inside its region, by the regions' lengths
abbrev pub AreInside : List ℕ → List Piece → Type 0
AreInside lens pieces = (i : ℕ) (p : Piece) → slice_get pieces i ≡ Some p → p.at + p.len ≤ length_of lens p.region

abbrev pub IsListed : List Piece → Piece → Type 0
IsListed pieces p = (i : ℕ) × (slice_get pieces i ≡ Some p)
