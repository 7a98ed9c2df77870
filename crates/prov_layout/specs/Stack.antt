-- What is known of the stack: parts of it.
use Rattle.std.specs.Prelude.{ℕ, ◌+◌, ◌==◌, ◌&&◌, nat_lt, Bool, List, [], ◌∷◌, if◌then◌else◌}
use Rattle.prov_types.specs.declared.kinds.Kind.{Kind}
use Rattle.prov_types.specs.declared.kinds.Kind.TheVariants.{Any}
use Rattle.prov_cert.specs.declared.cert.StackPart.{StackPart}
use Rattle.prov_layout.specs.Loads.{width_kind}
use Rattle.prov_layout.specs.Stores.{is_number, is_within}

-- what a load gives: the kind of the part with just these bytes, or Any
unfoldable pub part_kind : List StackPart → (o width : ℕ) → Kind
part_kind [] o width = Any
part_kind (p ∷ ps) o width = if p.at == o && p.width == width then p.kind else part_kind ps o width

-- a part has one of so many bytes from an offset on
abbrev pub meets : (o width : ℕ) → StackPart → Bool
meets o width p = nat_lt o (p.at + p.width) && nat_lt p.at (o + width)

-- the parts that have none of them
unfoldable pub without : (o width : ℕ) → List StackPart → List StackPart
without o width [] = []
without o width (p ∷ ps) = if meets o width p then without o width ps else p ∷ without o width ps

-- The kind of a part behind a store of a kind: below 8 bytes the stored number where it has the width, any number of the width
-- for every other number, and Any for all else.
abbrev pub stored_kind : (width : ℕ) → Kind → Kind
stored_kind width kind =
    if width == 8 then kind else (if is_number kind then (if is_within width kind then kind else width_kind width) else Any)

-- the parts behind a store: one that is new, and those that it doesn't meet
unfoldable pub with_part : (o width : ℕ) → Kind → List StackPart → List StackPart
with_part o width kind parts = record { at = o; width = width; kind = stored_kind width kind } ∷ without o width parts
