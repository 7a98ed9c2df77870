-- The words of parts.
use Rattle.std.specs.Prelude.{ℕ, List, [], ◌∷◌, codes, Option, Some, None, if◌then◌else◌}
use Rattle.std.specs.Str.{bytes_eq}
use Rattle.record_names.specs.declared.part.Part.{Part}
use Rattle.record_names.specs.declared.part.Part.TheVariants as parts

abbrev pub part_name : Part → List ℕ
part_name parts.Text = codes "Text"
part_name parts.Keys = codes "Keys"
part_name parts.Regions = codes "Regions"
part_name parts.Spans = codes "Spans"
part_name parts.Entries = codes "Entries"
part_name parts.Notify = codes "Notify"
part_name parts.Nodes = codes "Nodes"

-- the first of some parts with a word
abbrev pub part_in : List Part → List ℕ → Option Part
part_in [] word = None
part_in (part ∷ others) word = if bytes_eq (part_name part) word then Some part else part_in others word

abbrev pub all_parts : List Part
all_parts =
    parts.Text ∷ parts.Keys ∷ parts.Regions ∷ parts.Spans ∷ parts.Entries ∷ parts.Notify ∷ parts.Nodes ∷ []

-- the part of a word
unfoldable pub part_of : List ℕ → Option Part
part_of word = part_in all_parts word
