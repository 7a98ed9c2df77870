-- What the definitions come to.
use Rattle.std.specs.Prelude.{ℕ, ◌≡◌, ◌<◌, ◌≤◌, ◌+◌, ◌^◌, Bool, true, false, List, slice_get, Option, Some, None}
use Rattle.std.specs.List.{All, AllPairs}
use Rattle.uh_base.specs.Bytes.{number_at}
use Rattle.base_reloc.specs.declared.site.Site.{Site}
use Rattle.base_reloc.specs.Sites.{width_of, end_of}
use Rattle.base_reloc.specs.Moved.{moved_word}
use Rattle.memory_map.specs.declared.descriptor.Descriptor.{Descriptor}
use Rattle.page_alloc.specs.declared.layout.Layout.{Layout}
use Rattle.page_alloc.specs.Layout.{IsLayout}
use Rattle.page_alloc.specs.Pages.{PageList, page_at}
use Rattle.page_alloc.specs.Opening.{firmware, at_opening}
use Rattle.guest_memory.specs.Pages.{Pages, is_touched}
use Rattle.event_queue.specs.declared.event.Notify.{Notify}
use Rattle.virtual_map.specs.States.{Runtime, SameParts}
use Rattle.virtual_map.specs.Instructions.{carried}
use Rattle.runtime_turn.specs.Functions.{run_function}
use Rattle.map_faults.specs.Grounds.{Kept}
use Rattle.map_transition.specs.Images.{AreApart, HasSites}
use Rattle.map_transition.specs.Wholes.{Whole, HavePlaces}
use Rattle.map_transition.specs.Fixes.{has_byte, displacement_of, fixed}

-- Images that stay share no page, and their sites no byte.
pub record AreKept (m : Pages) (kept : List Kept) : Type 0 where
  pub sites : All (HasSites m) kept
  pub apart : AllPairs AreApart kept

-- an image has a site, with the load value of its word and with its mark
pub record IsSite (image : Kept) (one : Site) (load : ℕ) (mark : Bool) : Type 0 where
  pub at : ℕ
  pub site : slice_get image.sites at ≡ Some one
  pub word : slice_get image.words at ≡ Some load
  pub same : slice_get image.same at ≡ Some mark

-- the word at a site of an image
abbrev pub word_of : (ℕ → ℕ) → Kept → Site → ℕ
word_of bytes image site = number_at bytes (image.base + site.at) (width_of site.kind)

-- a marked word becomes its load value moved, where that is in its range; any other stays
abbrev pub moved_or : Bool → Option ℕ → ℕ → ℕ
moved_or true (Some moved) word = moved
moved_or true None word = word
moved_or false moved word = word

abbrev pub WordsMove : Type 0
WordsMove = (entries : List Descriptor) (m : Pages) (kept : List Kept) (bytes : ℕ → ℕ) (i : ℕ) (image : Kept) (site : Site) (load : ℕ) (same : Bool)
    → AreKept m kept → slice_get kept i ≡ Some image → IsSite image site load same → image.base + end_of site < 2 ^ 64
    → word_of (fixed entries kept bytes) image site ≡ moved_or same (moved_word site.kind load (displacement_of entries image)) (word_of bytes image site)

-- A byte that no site of these images has stays.
abbrev pub OtherBytesStay : Type 0
OtherBytesStay = (entries : List Descriptor) (kept : List Kept) (bytes : ℕ → ℕ) (at : ℕ)
    → All (λ (image : Kept). All (λ (site : Site). has_byte image.base site at ≡ false) image.sites) kept → fixed entries kept bytes at ≡ bytes at

-- ---- the places of a layout

-- all pages from one address to another are the firmware's, of a memory type
abbrev pub AreOfType : PageList → ℕ → ℕ → ℕ → Type 0
AreOfType pages from to memory_type = (at : ℕ) → from ≤ at → at < to → page_at pages at ≡ Some (firmware memory_type)

-- The places of a layout are the firmware's own pages, which no guest takes or gives back.
pub record AreFirmwares (layout : Layout) (pages : PageList) : Type 0 where
  pub os : AreOfType pages layout.os_stack layout.boot_stack 2
  pub boot : AreOfType pages layout.boot_stack layout.system 4
  pub system : AreOfType pages layout.system layout.slots 6
  pub slots : AreOfType pages layout.slots (layout.slots + 4096) 5

abbrev pub PlacesAtOpening : Type 0
PlacesAtOpening = (layout : Layout) → IsLayout layout → AreFirmwares layout (at_opening layout)

-- So they have the types that a whole state asks for.
abbrev pub PlacesHaveTypes : Type 0
PlacesHaveTypes = (layout : Layout) (pages : PageList) → AreFirmwares layout pages → HavePlaces layout pages

-- ---- while code runs

-- no page that is touched in one memory isn't in the other
abbrev pub StayTouched : Pages → Pages → Type 0
StayTouched old new = (page : ℕ) → is_touched old page ≡ true → is_touched new page ≡ true

-- A state stays whole where at most bytes change and pages are touched.
abbrev pub WholeStays : Type 0
WholeStays = (old new : Runtime) → Whole old → SameParts old new → StayTouched old.memory new.memory → Whole new

abbrev pub InstructionsKeepTouched : Type 0
InstructionsKeepTouched = (x : List ℕ) (pc : ℕ) (r : Runtime) → StayTouched r.memory (carried x pc r).runtime.memory

abbrev pub FunctionsKeepTouched : Type 0
FunctionsKeepTouched = (entries : List Descriptor) (sp : ℕ) (notify : Notify) (r : Runtime) → StayTouched r.memory (run_function entries sp notify r).runtime.memory
