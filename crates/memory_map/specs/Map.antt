-- The memory map: descriptors of runs of pages of one type (UEFI 2.10, section 7.2, GetMemoryMap).
use Rattle.std.specs.Prelude.{ℕ, ◌≡◌, ◌≢◌, ◌+◌, ◌*◌, ◌<◌, ◌==◌, ◌||◌, ◌&&◌, nat_le, nat_lt, Bool, true, List, [], ◌∷◌, length, map, Option, Some, None, if◌then◌else◌}
use Rattle.std.specs.List.{find}
use Rattle.page_alloc.specs.declared.page.Page.{Page}
use Rattle.page_alloc.specs.Pages.{PageList, page_at}
use Rattle.memory_map.specs.declared.descriptor.Descriptor.{Descriptor}

-- What the memory can do: it is cached, with write-back (bit 3), and the firmware needs it at run time
-- (bit 63) where it is EfiRuntimeServicesCode or EfiRuntimeServicesData.
abbrev pub attribute_of : ℕ → ℕ
attribute_of memory_type = if memory_type == 5 || memory_type == 6 then 0x8000000000000008 else 8

-- so many pages of a type from an address on
abbrev pub described : ℕ → ℕ → ℕ → Descriptor
described at memory_type pages = record { memory_type = memory_type; start = at; virt = 0; pages = pages; attribute = attribute_of memory_type }

-- a page of a type in front of descriptors: it joins the first where their types are equal
abbrev pub with_page : ℕ → ℕ → List Descriptor → List Descriptor
with_page at memory_type [] = described at memory_type 1 ∷ []
with_page at memory_type (d ∷ ds) = if memory_type == d.memory_type then described at memory_type (d.pages + 1) ∷ ds else described at memory_type 1 ∷ d ∷ ds

-- the descriptors of pages of these types, from an address on
unfoldable pub map_from : ℕ → List ℕ → List Descriptor
map_from at [] = []
map_from at (memory_type ∷ types) = with_page at memory_type (map_from (at + 4096) types)

-- the type of each page
abbrev pub types_of : List Page → List ℕ
types_of pages = map (λ page. page.memory_type) pages

abbrev pub map_of : PageList → List Descriptor
map_of m = map_from m.base (types_of m.pages)

-- the first of the descriptors that are left, and what is left behind it
abbrev pub IsNext : Option Descriptor → List Descriptor → List Descriptor → Type 0
IsNext None old new = (old ≡ []) × (new ≡ [])
IsNext (Some d) old new = old ≡ d ∷ new

-- whether an address is in a descriptor's pages
abbrev pub holds : ℕ → Descriptor → Bool
holds at d = nat_le d.start at && nat_lt at (d.start + 4096 * d.pages)

-- the first descriptor that holds an address
abbrev pub descriptor_of : List Descriptor → ℕ → Option Descriptor
descriptor_of list at = find (holds at) list

-- Each descriptor has a page and begins where the one before it ends, the first at one address, and the last
-- ends at another: so they ascend, are apart, and leave nothing out.
abbrev pub Covers : ℕ → ℕ → List Descriptor → Type 0
Covers from to [] = from ≡ to
Covers from to (d ∷ ds) = (d.start ≡ from) × (0 < d.pages) × Covers (from + 4096 * d.pages) to ds

-- Descriptors that meet have different types: so each is as long as it can be.
abbrev pub FirstDiffers : ℕ → List Descriptor → Type 0
FirstDiffers memory_type [] = Unit {0}
FirstDiffers memory_type (d ∷ ds) = memory_type ≢ d.memory_type

abbrev pub NeighboursDiffer : List Descriptor → Type 0
NeighboursDiffer [] = Unit {0}
NeighboursDiffer (d ∷ ds) = FirstDiffers d.memory_type ds × NeighboursDiffer ds

-- A page has its descriptor's type, and an address outside RAM has no descriptor.
abbrev pub IsDescribed : ℕ → Option Page → Option Descriptor → Type 0
IsDescribed at (Some page) (Some d) = (d.memory_type ≡ page.memory_type) × (holds at d ≡ true) × (d.virt ≡ 0) × (d.attribute ≡ attribute_of d.memory_type)
IsDescribed at (Some page) None = ⊥
IsDescribed at None (Some d) = ⊥
IsDescribed at None None = Unit {0}

-- The descriptors of a list of pages cover RAM, neighbours differ in type, and each address is described by its page's type.
pub record IsMap (m : PageList) (list : List Descriptor) : Type 0 where
  pub covers : Covers m.base (m.base + 4096 * length m.pages) list
  pub differ : NeighboursDiffer list
  pub types : (at : ℕ) → IsDescribed at (page_at m at) (descriptor_of list at)
