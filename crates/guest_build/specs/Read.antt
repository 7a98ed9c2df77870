-- What a reader of images finds in an assembled one.
use Rattle.std.specs.Prelude.{◌≡◌, ◌≤◌, ◌<◌, ℕ, ◌+◌, ◌%◌, ◌^◌, ◌==◌, ◌&&◌, Bool, false, List, [], ◌∷◌, ◌++◌, length, map, take, drop, codes, slice_index, Option, Some, Result, Ok, Err, nat_le, nat_lt, if◌then◌else◌}
use Rattle.std.specs.Str.Lines.{lines}
use Rattle.pe_image.specs.ImageOf.{Fields, image_of as read_image}
use Rattle.pe_image.specs.Placed.{in_pages, placed_byte}
use Rattle.pe_image.specs.declared.fault.PeFault.{PeFault}
use Rattle.pe_image.specs.declared.fault.PeFault.TheVariants as faults
use Rattle.pe_image.specs.declared.image.Section.{Section}
use Rattle.base_reloc.specs.Kept.{sites_in}
use Rattle.base_reloc.specs.declared.site.Site.{Site as ReadSite}
use Rattle.base_reloc.specs.declared.site.SiteKind.{SiteKind as ReadKind}
use Rattle.base_reloc.specs.declared.site.SiteKind.TheVariants as read_kinds
use Rattle.guest_build.specs.Lines.{line_of}
use Rattle.guest_build.specs.Places.{found, extent_of, nothing_yet, origins_of, place_in, at_origin, base_in, subsystem_in}
use Rattle.guest_build.specs.Codes.{offset_of, bytes_at}
use Rattle.guest_build.specs.Layout.{Sections, Layout, no_sections, content_in, layout_of, sites_of}
use Rattle.guest_build.specs.Image.{image_of, data_raw, reloc_raw, directory_at}
use Rattle.guest_build.specs.Assembled.{sections_from, assembled}
use Rattle.guest_build.specs.declared.places.Origins.{Origins}
use Rattle.guest_build.specs.declared.places.Place.{Place}
use Rattle.guest_build.specs.declared.statement.Line.{Line}
use Rattle.guest_build.specs.declared.relocation.Site.{Site}
use Rattle.guest_build.specs.declared.relocation.SiteKind.{SiteKind}
use Rattle.guest_build.specs.declared.relocation.SiteKind.TheVariants as kinds

-- ---- what a text is made to

-- where the sections begin, and where labels stand in them
abbrev pub origins_in : List ℕ → Origins
origins_in text = origins_of (extent_of nothing_yet (lines text))

abbrev pub labels_in : List ℕ → List ℕ → Option Place
labels_in text = found 1 nothing_yet (lines text)

-- where `start` stands in the image, and what the lines make of the sections
pub record IsMadeOf (text : List ℕ) (entry : ℕ) (all : Sections) : Type 0 where
  pub start : offset_of (origins_in text) (labels_in text (codes "start")) ≡ Ok entry
  pub sections : sections_from (origins_in text) (labels_in text) 1 no_sections (lines text) ≡ Ok all

-- ---- what is read

-- a section with all its bytes from the file; 1 may be read, 2 written, 4 executed
abbrev pub section_of : (bytes : List ℕ) (at raw rights : ℕ) → Section
section_of bytes at raw rights = record { at = at; len = length bytes; raw = raw; copied = length bytes; rights = rights }

abbrev pub section_if : (bytes : List ℕ) (at raw rights : ℕ) → List Section
section_if bytes at raw rights = if length bytes == 0 then [] else section_of bytes at raw rights ∷ []

-- .text may be read and executed, .data read and written, .reloc read
unfoldable pub sections_read : Layout → Sections → List Section
sections_read layout all =
    section_of all.in_text.bytes layout.text_from layout.headers 5
    ∷ (section_if all.in_data.bytes layout.data_from (data_raw layout all) 3
    ++ section_if layout.table layout.reloc_from (reloc_raw layout all) 1)

unfoldable pub fields_read : (entry : ℕ) → Layout → Sections → Fields
fields_read entry layout all = record {
  subsystem = subsystem_in all.settings;
  image_base = base_in all.settings;
  alignment = layout.alignment;
  size = layout.size;
  headers = layout.headers;
  entry = entry;
  sections = sections_read layout all;
  reloc_at = directory_at layout;
  reloc_len = length layout.table;
  stripped = false;
}

-- an entry point at an even offset in the image
abbrev pub is_entry : ℕ → Layout → Bool
is_entry entry layout = nat_le 1 entry && (entry % 2 == 0 && nat_lt entry layout.size)

-- all that can be wrong with an assembled image is its entry point
unfoldable pub image_read : (entry : ℕ) → Layout → Sections → Result Fields PeFault
image_read entry layout all = if is_entry entry layout then Ok (fields_read entry layout all) else Err faults.EntryOutside

abbrev pub kind_read : SiteKind → ReadKind
kind_read kinds.High20 = read_kinds.High20
kind_read kinds.Dir64 = read_kinds.Dir64

abbrev pub site_read : Site → ReadSite
site_read site = record { at = site.at; kind = kind_read site.kind }

-- ---- the laws, of images of less than 2^63 bytes

-- an image that is assembled is made of its text, and is read as what it was made of
abbrev pub AssembledImagesAreRead : Type 0
AssembledImagesAreRead = (text bytes : List ℕ) → length bytes < 2 ^ 63 → assembled text ≡ Ok bytes
    → (entry : ℕ) × (all : Sections) × IsMadeOf text entry all × (bytes ≡ image_of entry all) × (read_image bytes ≡ image_read entry (layout_of all) all)

-- an image that is assembled has at most 4 MiB
abbrev pub AssembledImagesAreShort : Type 0
AssembledImagesAreShort = (text bytes : List ℕ) → length bytes < 2 ^ 63 → assembled text ≡ Ok bytes → length bytes ≤ 2 ^ 22

-- a list that has each byte of the placed image
pub record IsPlaced (image : Fields) (file placed : List ℕ) : Type 0 where
  pub whole : length placed ≡ in_pages image.size
  pub bytes : (at : ℕ) → at < length placed → slice_index placed at ≡ placed_byte image file at

-- the sites that are read in the placed image are those of the labels, in the order of their lines in each section
abbrev pub SitesAreOfLabels : Type 0
SitesAreOfLabels = (text placed : List ℕ) (entry : ℕ) (all : Sections) → IsMadeOf text entry all → length (image_of entry all) < 2 ^ 63
    → IsPlaced (fields_read entry (layout_of all) all) (image_of entry all) placed
    → sites_in (fields_read entry (layout_of all) all) placed ≡ Ok (map site_read (sites_of (layout_of all).text_from (layout_of all).data_from all))

-- the place behind lines: the section that they leave, and the end of what it holds by then
abbrev pub place_behind : List (List ℕ) → Place
place_behind before = place_in (1 + length before) (extent_of nothing_yet before)

-- The bytes of a line behind others stand in its section at the place behind them, and its label names that place.
pub record Stands (text : List ℕ) (all : Sections) (line : Line) (place : Place) : Type 0 where
  pub bytes : List ℕ
  pub made : bytes_at (origins_in text) (labels_in text) (at_origin (origins_in text) place.section place.offset) line.statement ≡ Ok bytes
  pub there : take (length bytes) (drop place.offset (content_in all place.section).bytes) ≡ bytes
  pub named : (name : List ℕ) → line.label ≡ Some name → labels_in text name ≡ Some place

-- the sections begin where they are read, and each line stands at its place
abbrev pub LinesStandAtTheirPlaces : Type 0
LinesStandAtTheirPlaces = (text : List ℕ) (entry : ℕ) (all : Sections) → IsMadeOf text entry all → length (image_of entry all) < 2 ^ 63
    → (origins_in text ≡ record { base = base_in all.settings; text_from = (layout_of all).text_from; data_from = (layout_of all).data_from })
    × ((before after : List (List ℕ)) (line : List ℕ) → lines text ≡ before ++ line ∷ after → Stands text all (line_of line) (place_behind before))
