-- What the definitions come to.
use Rattle.std.specs.Prelude.{ℕ, ◌≡◌, ◌<◌, ◌+◌, ◌%◌, ◌^◌, List, [], ◌∷◌, length, slice_index, slice_get, Some, None, find, Ok}
use Rattle.pe_image.specs.ImageOf.{Fields}
use Rattle.pe_image.specs.Numbers.{u64_at}
use Rattle.base_reloc.specs.declared.site.Site.{Site}
use Rattle.base_reloc.specs.declared.site.SiteKind.TheVariants.{Dir64}
use Rattle.base_reloc.specs.declared.entry.EntryKind.{EntryKind}
use Rattle.base_reloc.specs.declared.entry.EntryKind.TheVariants.{Padding, Moved, Unmoved, Unknown}
use Rattle.base_reloc.specs.Sites.{AreSites, covers}
use Rattle.base_reloc.specs.Blocks.{Part, Entry, Broken, parts_of, table_of}
use Rattle.base_reloc.specs.Kept.{kind_of, type_in, offset_in, sites_in}
use Rattle.base_reloc.specs.Moved.{moved_word, moved_byte}

-- the site of an entry, in front of those of later entries: types 3, 5 and 10 have one
abbrev pub site_before : ℕ → EntryKind → List Site → List Site
site_before at (Moved kind) sites = record { at = at; kind = kind } ∷ sites
site_before at Padding sites = sites
site_before at Unmoved sites = sites
site_before at Unknown sites = sites

-- the sites of the entries that have one, in order
abbrev pub moved_entries : List Part → List Site
moved_entries [] = []
moved_entries (Broken block ∷ parts) = moved_entries parts
moved_entries (Entry page word ∷ parts) = site_before (page + offset_in word) (kind_of (type_in word)) (moved_entries parts)

-- The sites that are read are those of exactly the entries of types 3, 5 and 10, in order.
abbrev pub SitesAreEntries : Type 0
SitesAreEntries = (image : Fields) (placed : List ℕ) (sites : List Site) → sites_in image placed ≡ Ok sites → sites ≡ moved_entries (parts_of (table_of image placed))

-- A byte that no site has stays.
abbrev pub OtherBytesStay : Type 0
OtherBytesStay = (bytes : List ℕ) (sites : List Site) (displacement at : ℕ) → find (covers at) sites ≡ None → moved_byte bytes sites displacement at ≡ slice_index bytes at

-- A word of 64 bits moves by the displacement, modulo 2^64.
abbrev pub Dir64Moves : Type 0
Dir64Moves = (word displacement : ℕ) → moved_word Dir64 word displacement ≡ Some ((word + displacement) % 2 ^ 64)

-- bytes with their sites moved are others
abbrev pub MovedTo : List ℕ → List Site → ℕ → List ℕ → Type 0
MovedTo bytes sites displacement moved = (length moved ≡ length bytes) × ((i : ℕ) → i < length moved → slice_get moved i ≡ Some (moved_byte bytes sites displacement i))

-- there is a site of 64 bits at an offset
abbrev pub HasDir64 : List Site → ℕ → Type 0
HasDir64 sites at = (i : ℕ) × (slice_get sites i ≡ Some (record { at = at; kind = Dir64 }))

-- The word of 64 bits at a site is, once the sites are moved, what it was, and the displacement, modulo 2^64.
abbrev pub WordsMove : Type 0
WordsMove = (bytes moved : List ℕ) (sites : List Site) (displacement at : ℕ) → AreSites (length bytes) sites → HasDir64 sites at → MovedTo bytes sites displacement moved
    → u64_at moved at ≡ (u64_at bytes at + displacement) % 2 ^ 64

-- So it is once they are moved again, by both displacements.
abbrev pub WordsMoveTwice : Type 0
WordsMoveTwice = (bytes moved again : List ℕ) (sites : List Site) (one other at : ℕ) → AreSites (length bytes) sites → HasDir64 sites at
    → MovedTo bytes sites one moved → MovedTo moved sites other again → u64_at again at ≡ (u64_at bytes at + (one + other)) % 2 ^ 64
