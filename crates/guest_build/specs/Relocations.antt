-- Base relocations (PE/COFF, "The .reloc Section (Image Only)").
use Rattle.std.specs.Prelude.{ℕ, ◌+◌, ◌*◌, ◌/◌, ◌%◌, ◌==◌, Bool, true, false, not, List, [], ◌∷◌, ◌++◌, map, Option, Some, None, if◌then◌else◌}
use Rattle.std.specs.List.{prefix_len}
use Rattle.uh_base.specs.LittleEndian.{low_bytes}
use Rattle.guest_build.specs.Places.{sum}
use Rattle.guest_build.specs.declared.relocation.SiteKind.{SiteKind}
use Rattle.guest_build.specs.declared.relocation.SiteKind.TheVariants as sites
use Rattle.guest_build.specs.declared.relocation.Site.{Site}

-- IMAGE_REL_BASED_RISCV_HIGH20 and IMAGE_REL_BASED_DIR64
abbrev pub type_of : SiteKind → ℕ
type_of sites.High20 = 5
type_of sites.Dir64 = 10

-- sites of a section that begins at an offset
abbrev pub place_of : ℕ → Site → Site
place_of from site = record { at = sum from site.at; kind = site.kind }

abbrev pub placed : ℕ → List Site → List Site
placed from sites = map (place_of from) sites

abbrev pub page_of : Site → ℕ
page_of site = site.at / 4096

abbrev pub is_on : Option ℕ → Site → Bool
is_on None site = false
is_on (Some page) site = page_of site == page

abbrev pub entry_bytes : Site → List ℕ
entry_bytes site = low_bytes 2 (type_of site.kind * 4096 + site.at % 4096)

-- the header of a block with so many entries, which counts itself and a padding entry
abbrev pub block_header : (page count : ℕ) → List ℕ
block_header page count = low_bytes 4 (page * 4096) ++ low_bytes 4 (8 + 2 * (count + count % 2))

-- a block with an odd number of entries ends in a padding entry, IMAGE_REL_BASED_ABSOLUTE
abbrev pub padding : Bool → List ℕ
padding odd = if odd then 0 ∷ 0 ∷ [] else []

-- The table of ascending sites, behind the block of a page with an even or odd number of entries. A site on another
-- page than the one before it begins a block.
unfoldable pub table_behind : Option ℕ → Bool → List Site → List ℕ
table_behind page odd [] = padding odd
table_behind page odd (site ∷ others) =
    if is_on page site then entry_bytes site ++ table_behind page (not odd) others
    else padding odd ++ (block_header (page_of site) (1 + prefix_len (is_on (Some (page_of site))) others)
    ++ (entry_bytes site ++ table_behind (Some (page_of site)) true others))

unfoldable pub table_of : List Site → List ℕ
table_of sites = table_behind None false sites
