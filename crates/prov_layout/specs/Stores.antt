-- What stores outside the stack keep.
use Rattle.std.specs.Prelude.{ℕ, ◌^◌, ◌==◌, ◌&&◌, nat_lt, Bool, true, false, Option, Some, None, if◌then◌else◌}
use Rattle.prov_types.specs.declared.kinds.Kind.{Kind}
use Rattle.prov_types.specs.declared.kinds.Kind.TheVariants.{Num}
use Rattle.prov_types.specs.Fits.{fits}
use Rattle.prov_layout.specs.declared.piece.Class.{Class}
use Rattle.prov_layout.specs.declared.piece.Class.TheVariants.{Code, Plain, Number, Fixed, Convert}
use Rattle.prov_layout.specs.declared.piece.Piece.{Piece}
use Rattle.prov_layout.specs.Pieces.{all_of, is_exactly, is_plain}

abbrev pub is_number : Kind → Bool
is_number (Num s) = true
is_number _ = false

-- each number of a span has so many bytes
abbrev pub is_within : ℕ → Kind → Bool
is_within width (Num s) = nat_lt s.hi (256 ^ width)
is_within width _ = false

-- Exactly a number takes a number of its kind that has its width; exactly a convertible cell takes its kind; plain bytes take
-- every number.
abbrev pub takes : Class → (width : ℕ) → Kind → Bool
takes Code width kind = false
takes Plain width kind = is_number kind
takes (Number own) width kind = is_number kind && (is_within width kind && fits kind own)
takes (Fixed own) width kind = false
takes (Convert own cell) width kind = width == 8 && fits kind own

abbrev pub store_by : Option Piece → (ℕ → Option Piece) → (o width : ℕ) → Kind → Bool
store_by None at o width kind = false
store_by (Some p) at o width kind =
    if is_exactly o width p then takes p.class width kind else (is_number kind && all_of is_plain at o width)

-- Of a region's bytes by their offset: a store of a kind at an offset keeps what they are.
unfoldable pub store_keeps : (ℕ → Option Piece) → (o width : ℕ) → Kind → Bool
store_keeps at o width kind = store_by (at o) at o width kind
