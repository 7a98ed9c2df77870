-- The words of images that move with them at a virtual address map (UEFI 2.10, section 8.4; PE/COFF, "Base Relocation
-- Types").
use Rattle.std.specs.Prelude.{ℕ, ◌≡◌, ◌+◌, ◌-◌, ◌*◌, ◌==◌, ◌&&◌, nat_le, nat_lt, Bool, List, [], ◌∷◌, map, find, Option, Some, None, if◌then◌else◌}
use Rattle.uh_base.specs.Bytes.{number_at}
use Rattle.base_reloc.specs.declared.site.Site.{Site}
use Rattle.base_reloc.specs.Sites.{width_of, end_of}
use Rattle.base_reloc.specs.Moved.{moved_word, byte_in}
use Rattle.memory_map.specs.declared.descriptor.Descriptor.{Descriptor}
use Rattle.guest_memory.specs.Pages.{Pages, bytes_of}
use Rattle.guest_memory.specs.Runs.{bytes_from}
use Rattle.map_faults.specs.Grounds.{Kept}
use Rattle.map_faults.specs.Rules.{behind}
use Rattle.map_faults.specs.Faults.{displacement_by, entry_at}

-- ---- which words are as their load left them

-- one mark for each site of an image that begins at an address: whether its word is its load value
unfoldable pub marks_of : (ℕ → ℕ) → ℕ → List Site → List ℕ → List Bool
marks_of bytes base (site ∷ sites) (word ∷ words) = (number_at bytes (base + site.at) (width_of site.kind) == word) ∷ marks_of bytes base sites words
marks_of bytes base sites words = []

abbrev pub marked : (ℕ → ℕ) → Kept → Kept
marked bytes image = record image { same = marks_of bytes image.base image.sites image.words }

abbrev pub all_marked : (ℕ → ℕ) → List Kept → List Kept
all_marked bytes kept = map (marked bytes) kept

-- ---- what they become

-- At most the bytes of a memory change.
abbrev pub OnlyBytes : Pages → Pages → Type 0
OnlyBytes old new = new ≡ record old { bytes = new.bytes }

-- whether a site of an image that begins at an address has the byte at another
abbrev pub has_byte : ℕ → Site → ℕ → Bool
has_byte base site at = nat_le (base + site.at) at && nat_lt at (base + end_of site)

-- the byte at an address, where a site becomes its load value moved if it is marked
abbrev pub fixed_at : ℕ → ℕ → Site → ℕ → Bool → ℕ → ℕ → ℕ
fixed_at base by site word same at byte =
    if same && has_byte base site at then byte_in (at - (base + site.at)) (moved_word site.kind word by) byte else byte

-- The byte at an address of an image: that of the marked site that has it, or the byte as it was.
unfoldable pub fixed_byte : ℕ → ℕ → List Site → List ℕ → List Bool → ℕ → ℕ → ℕ
fixed_byte base by (site ∷ sites) (word ∷ words) (same ∷ marks) at byte =
    if has_byte base site at then fixed_at base by site word same at byte
    else fixed_byte base by sites words marks at byte
fixed_byte base by sites words marks at byte = byte

-- whether an image has the byte at an address
abbrev pub owns : ℕ → Kept → Bool
owns at image = nat_le image.base at && nat_lt at (behind image.base image.pages)

-- how far an image moves, modulo 2^64
abbrev pub displacement_of : List Descriptor → Kept → ℕ
displacement_of entries image = displacement_by (entry_at entries image.base)

abbrev pub fixed_in : List Descriptor → Kept → ℕ → ℕ → ℕ
fixed_in entries image at byte = fixed_byte image.base (displacement_of entries image) image.sites image.words image.same at byte

abbrev pub fixed_by : List Descriptor → Option Kept → ℕ → ℕ → ℕ
fixed_by entries None at byte = byte
fixed_by entries (Some image) at byte = fixed_in entries image at byte

-- the byte at each address: in an image its byte there, elsewhere the byte as it was
unfoldable pub fixed : List Descriptor → List Kept → (ℕ → ℕ) → ℕ → ℕ
fixed entries kept bytes = λ at. fixed_by entries (find (owns at) kept) at (bytes at)

-- memory with these bytes
abbrev pub with_fixed : List Descriptor → List Kept → Pages → Pages
with_fixed entries kept m = record m { bytes = bytes_from (fixed entries kept (bytes_of m)) m.base (4096 * m.pages) }
