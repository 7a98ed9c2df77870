-- The words of parts are read back, and are words.
use Rattle.std.proofs.Common.{◌≡◌, Some, refl}
use Rattle.record_names.specs.Parts.{part_name, part_of}
use Rattle.record_names.specs.Words.{IsWord}
use Rattle.record_names.specs.declared.part.Part.{Part}
use Rattle.record_names.specs.declared.part.Part.TheVariants as parts

pub part_back : (part : Part) → part_of (part_name part) ≡ Some part
unfolding part_of
part_back parts.Text = refl
part_back parts.Keys = refl
part_back parts.Regions = refl
part_back parts.Spans = refl
part_back parts.Entries = refl
part_back parts.Notify = refl
part_back parts.Nodes = refl

pub part_is_word : (part : Part) → IsWord (part_name part)
part_is_word parts.Text = refl
part_is_word parts.Keys = refl
part_is_word parts.Regions = refl
part_is_word parts.Spans = refl
part_is_word parts.Entries = refl
part_is_word parts.Notify = refl
part_is_word parts.Nodes = refl
