-- What loads outside the stack give.
use Rattle.std.specs.Prelude.{ℕ, zero, suc, ◌+◌, ◌-◌, ◌/◌, ◌^◌, nat_lt, Bool, true, false, Option, Some, None, if◌then◌else◌}
use Rattle.prov_types.specs.declared.kinds.Span.{Span}
use Rattle.prov_types.specs.declared.kinds.Kind.{Kind}
use Rattle.prov_types.specs.declared.kinds.Kind.TheVariants.{Any, Num}
use Rattle.prov_types.specs.Spans.{spanning, whole}
use Rattle.prov_layout.specs.declared.piece.Class.{Class}
use Rattle.prov_layout.specs.declared.piece.Class.TheVariants.{Code, Plain, Number, Fixed, Convert}
use Rattle.prov_layout.specs.declared.piece.Piece.{Piece}
use Rattle.prov_layout.specs.Pieces.{all_of, is_exactly, is_open}
use Rattle.prov_layout.specs.Joins.{both}

-- any number of so many bytes
abbrev pub width_kind : ℕ → Kind
width_kind width = Num (spanning 0 (256 ^ width - 1) 1)

-- Exactly a number, a fixed cell or a convertible one gives its kind; all of a plain piece gives a number of the width.
abbrev pub class_kind : Class → ℕ → Option Kind
class_kind Code width = None
class_kind Plain width = Some (width_kind width)
class_kind (Number kind) width = Some kind
class_kind (Fixed kind) width = Some kind
class_kind (Convert kind cell) width = Some kind

-- Plain bytes and bytes of numbers give a number of the width.
abbrev pub load_by : Option Piece → (ℕ → Option Piece) → (o width : ℕ) → Option Kind
load_by None at o width = None
load_by (Some p) at o width =
    if is_exactly o width p then class_kind p.class width
    else (if all_of is_open at o width then Some (width_kind width) else None)

-- Of a region's bytes by their offset: the kind that a load at an offset gives, none where it isn't allowed.
unfoldable pub load_kind : (ℕ → Option Piece) → (o width : ℕ) → Option Kind
load_kind at o width = load_by (at o) at o width

-- the least common kind of loads at an offset and at n more behind it, none where one isn't allowed
unfoldable pub load_kinds : (ℕ → Option Piece) → (o by width n : ℕ) → Option Kind
load_kinds at o by width zero = load_kind at o width
load_kinds at o by width (suc n) = both (load_kind at o width) (load_kinds at (o + by) by width n)

-- at each offset of a span
abbrev pub span_kind : (ℕ → Option Piece) → Span → (width : ℕ) → Option Kind
span_kind at s width = load_kinds at s.lo s.by width ((s.hi - s.lo) / s.by)

-- What is read of a loaded kind: with its sign a number stays where its span is below half the width's range.
abbrev pub read_kind : (sign : Bool) → (width : ℕ) → Kind → Kind
read_kind true width (Num s) = if nat_lt s.hi (256 ^ width / 2) then Num s else Num whole
read_kind true width _ = Any
read_kind false width kind = kind
