-- The frames that stores into several ranges take together, where `see` is the place that each address shows.
use Rattle.std.specs.Prelude.{ℕ, ◌≡◌, ◌+◌, nat_lt, Bool, true, List, [], ◌∷◌, Option, All}
use Rattle.uh_base.specs.Limits.{frame_limit}
use Rattle.guest_memory.specs.Lists.{count_true}
use Rattle.guest_memory.specs.Pages.{Pages}
use Rattle.address_view.specs.declared.frames.ByteRange.{ByteRange}
use Rattle.address_view.specs.Seen.{all_pass, is_seen}
use Rattle.address_view.specs.Stored.{marked}

-- each address of each range shows memory
abbrev pub RangesSeen : (ℕ → Option ℕ) → Pages → List ByteRange → Type 0
RangesSeen see m ranges = All (λ (range : ByteRange). all_pass (is_seen see m) range.at range.len ≡ true) ranges

-- the touched marks of a memory, by its base, with those of the pages that the ranges show; a page that several of
-- them show has one mark
unfoldable pub marked_ranges : (ℕ → Option ℕ) → ℕ → List Bool → List ByteRange → List Bool
marked_ranges see base marks [] = marks
marked_ranges see base marks (range ∷ ranges) = marked_ranges see base (marked see base marks range.at range.len) ranges

-- whether stores into all of the ranges would touch more pages than there are frames
abbrev pub lacks_ranges : (ℕ → Option ℕ) → Pages → List ByteRange → Bool
lacks_ranges see m ranges = nat_lt frame_limit (count_true (marked_ranges see m.base m.touched ranges))

-- how many bytes the ranges have
unfoldable pub total_length : List ByteRange → ℕ
total_length [] = 0
total_length (range ∷ ranges) = range.len + total_length ranges
