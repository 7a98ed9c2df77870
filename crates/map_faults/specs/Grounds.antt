-- What a virtual address map is judged by (UEFI 2.10, section 8.4: SetVirtualAddressMap).
use Rattle.std.specs.Prelude.{ℕ, ◌<◌, ◌≤◌, ◌+◌, ◌*◌, ◌^◌, Bool, List, [], ◌∷◌, length}
use Rattle.std.specs.List.{All}
use Rattle.base_reloc.specs.declared.site.Site.{Site}
use Rattle.base_reloc.specs.Sites.{width_of}
use Rattle.page_alloc.specs.declared.layout.Layout.{Layout}
use Rattle.page_alloc.specs.Layout.{IsLayout}
use Rattle.memory_map.specs.declared.descriptor.Descriptor.{Descriptor}
use Rattle.memory_map.specs.Map.{Covers}

-- a runtime driver that stays: its handle, the address of its first byte and its pages; what moves with it, the words
-- there as the load left them, and a mark for each of these, which no rule reads
pub record Kept : Type 0 where
  pub handle : ℕ
  pub base : ℕ
  pub pages : ℕ
  pub sites : List Site
  pub words : List ℕ
  pub same : List Bool

-- where RAM lies; the descriptors of its memory map; the address at which the operating system's window is seen from the
-- map on; the runtime drivers that stay; whether boot services are over, and whether a map was made
pub record Ground : Type 0 where
  pub layout : Layout
  pub descriptors : List Descriptor
  pub os_virtual : ℕ
  pub kept : List Kept
  pub gone : Bool
  pub mapped : Bool

-- a call of SetVirtualAddressMap: the size and the version of a descriptor, the size of all entries in bytes, and the
-- entries
pub record Call : Type 0 where
  pub descriptor_size : ℕ
  pub version : ℕ
  pub map_size : ℕ
  pub entries : List Descriptor

-- the operating system's window: its stack, its arguments and its return page, 33 pages on end
abbrev pub window_pages : ℕ
window_pages = 33

-- each word is that of a site: it has no more bits
unfoldable pub WordsFit : List Site → List ℕ → Type 0
WordsFit [] [] = Unit {0}
WordsFit (site ∷ sites) (word ∷ words) = (word < 2 ^ (8 * width_of site.kind)) × WordsFit sites words
WordsFit sites words = ⊥

pub record IsKept (image : Kept) : Type 0 where
  pub few : length image.sites < 2 ^ 32
  pub fit : WordsFit image.sites image.words

-- The layout is one of a RAM, the descriptors are those of a memory map of it, and at most 16 images stay.
pub record IsGround (g : Ground) : Type 0 where
  pub layout : IsLayout g.layout
  pub covers : Covers g.layout.base (g.layout.base + 4096 * g.layout.pages) g.descriptors
  pub few : length g.kept ≤ 16
  pub kept : All IsKept g.kept
