-- The sites that are read in a placed image are those of its sections.
use Rattle.std.proofs.Common.{◌≡◌, ℕ, suc, ◌+◌, ◌-◌, ◌*◌, ◌^◌, ◌<◌, ◌≤◌, ◌&&◌, Bool, true, false, not, leb, eqb, List, [], ◌∷◌, ◌++◌, length, map, take, drop, get_or, replicate, Some, Ok, refl, sym, ap, ◌∙◌, length-append, arith, inl, inr}
use Rattle.std.proofs.lemmas.Bool.{cases_Bool}
use Rattle.std.proofs.lemmas.List.{ext_get_or, get_or-drop, get_or-take, get_or-append-add, get_or_append_left, length-take-le, length-drop, length-replicate}
use Rattle.std.specs.Prelude.{codes}
use Rattle.std.specs.List.{slice_range, find}
use Rattle.std.proofs.lemmas.Bool.{le-leb, lt-ltb, le-ltb, ne_eqb, eqb-true}
use Rattle.uh_base.specs.LittleEndian.{low_bytes}
use Rattle.pe_image.specs.Placed.{placed_byte, copies_to, in_pages}
use Rattle.pe_image.specs.declared.image.Section.{Section}
use Rattle.base_reloc.specs.Kept.{sites_in}
use Rattle.guest_build.specs.Image.{padded, raw_bytes, raw_size, data_raw, reloc_raw, directory_at, dos_header, coff_header, standard_fields, windows_fields, directories, read, write, execute, section_header, section_header_if, section_table, headers_of, file_of, image_of}
use Rattle.guest_build.specs.Layout.{Sections, Layout, layout_of, sites_of, has_sites}
use Rattle.guest_build.specs.Places.{counted, section_count, base_in, subsystem_in}
use Rattle.guest_build.specs.Read.{IsPlaced, section_of, sections_read, fields_read, site_read}
use Rattle.guest_build.specs.Relocations.{place_of, placed, table_behind, table_of}
use Rattle.guest_build.specs.declared.relocation.Site.{Site}
use Rattle.guest_build.proofs.LowLemmas.{length-low_bytes}
use Rattle.guest_build.proofs.PartLemmas.{BlocksFollow, Ascend, ascend, ascending, ascending_kept}
use Rattle.guest_build.proofs.Sound.{AreIn, end_of, IsSound, IsLaidOut}

-- ---- all sites ascend

sooner : (size from before : ℕ) (sites : List Site) → before ≤ from → Ascend size from sites → Ascend size before sites
sooner size from before [] low h = omega arith
sooner size from before (site ∷ others) low h = (omega (arith, h.0), h.1)

in_turn : (middle size from : ℕ) (sites others : List Site) → Ascend middle from sites → Ascend size middle others → Ascend size from (sites ++ others)
in_turn middle size from [] others h more = sooner size middle from others h more
in_turn middle size from (site ∷ sites) others h more = (h.0, in_turn middle size (end_of site) sites others h.1 more)

-- sites of a section that begins at an offset
placed_ascend : (base len from size before : ℕ) (sites : List Site) → base + len ≤ size → size < 2 ^ 64 → before ≤ base + from → Ascend len from sites → Ascend size before (placed base sites)
placed_ascend base len from size before [] fits small low h = omega arith
placed_ascend base len from size before (site ∷ others) fits small low h =
    let room = ascend len (end_of site) others h.1 in
    (omega (arith, h.0), placed_ascend base len (end_of site) size (end_of (place_of base site)) others fits small (omega arith) h.1)

pub all_ascend : (all : Sections) → AreIn (length all.in_text.bytes) all.in_text.sites → AreIn (length all.in_data.bytes) all.in_data.sites → IsLaidOut all
    → Ascend (layout_of all).size 0 (sites_of (layout_of all).text_from (layout_of all).data_from all)
all_ascend all in_text in_data out =
    let layout : Layout = layout_of all in
    in_turn layout.data_from layout.size 0 (placed layout.text_from all.in_text.sites) (placed layout.data_from all.in_data.sites)
    (placed_ascend layout.text_from (length all.in_text.bytes) 0 layout.data_from 0 all.in_text.sites (omega arith) (omega arith) (omega arith) (ascending (length all.in_text.bytes) all.in_text.sites in_text))
    (placed_ascend layout.data_from (length all.in_data.bytes) 0 layout.size layout.data_from all.in_data.sites (omega arith) (omega arith) (omega arith) (ascending (length all.in_data.bytes) all.in_data.sites in_data))

-- ---- how long the headers are

pub length-padded : (size : ℕ) (bytes : List ℕ) → length bytes ≤ size → length (padded size bytes) ≡ size
length-padded size bytes fits = omega (arith, length-append bytes (replicate (size - length bytes) 0), length-replicate {A = ℕ} (size - length bytes) 0)

length-section_header : (name : List ℕ) (size at raw_size raw characteristics : ℕ) → length name ≤ 8 → length (section_header name size at raw_size raw characteristics) ≡ 40
unfolding section_header
length-section_header name size at raw_size raw characteristics short = simp (length-append, length-low_bytes, length-replicate) (omega arith)

length-section_header_if : (name : List ℕ) (size at raw_size raw characteristics : ℕ) → length name ≤ 8 → length (section_header_if name size at raw_size raw characteristics) ≡ 40 * counted (not (eqb size 0))
unfolding section_header_if
length-section_header_if name size at raw_size raw characteristics short = elim (cases_Bool (eqb size 0)) [
  | inl none ↦ rw none refl
  | inr some ↦ rw some (length-section_header name size at raw_size raw characteristics short)
]

length-section_table : (layout : Layout) (all : Sections) → length (section_table layout all) ≡ 40 + 40 * counted (not (eqb (length all.in_data.bytes) 0)) + 40 * counted (not (eqb (length layout.table) 0))
unfolding section_table
length-section_table layout all =
    simp length-append
    (omega (
      arith,
      length-section_header (codes ".text") (length all.in_text.bytes) layout.text_from (raw_size layout all.in_text.bytes) layout.headers (read + execute) (omega arith),
      length-section_header_if (codes ".data") (length all.in_data.bytes) layout.data_from (raw_size layout all.in_data.bytes) (data_raw layout all) (read + write) (omega arith),
      length-section_header_if (codes ".reloc") (length layout.table) layout.reloc_from (raw_size layout layout.table) (reloc_raw layout all) read (omega arith),
    ))

length-headers_of : (entry : ℕ) (layout : Layout) (all : Sections) → length (headers_of entry layout all) ≡ 0x148 + length (section_table layout all)
unfolding headers_of dos_header coff_header standard_fields windows_fields directories low_bytes
length-headers_of entry layout all =
    length-append (dos_header ++ coff_header (section_count (length all.in_data.bytes) (has_sites all)) ++ standard_fields entry (base_in all.settings) layout.alignment
    ++ windows_fields layout.size layout.headers (subsystem_in all.settings) ++ directories (directory_at layout) (length layout.table)) (section_table layout all)

counted_low : (present : Bool) → counted present ≤ 1
counted_low true = omega arith
counted_low false = omega arith

-- with no sites there is no table
sites_counted : (text_from data_from : ℕ) (in_text in_data : List Site) → counted (not (eqb (length (table_of (placed text_from in_text ++ placed data_from in_data))) 0)) ≤ counted (not (eqb (length in_text) 0 && eqb (length in_data) 0))
unfolding table_of table_behind
sites_counted text_from data_from [] [] = omega arith
sites_counted text_from data_from [] (site ∷ in_data) = rw (ne_eqb (suc (length in_data)) 0 (λ none. absurd (omega arith))) (counted_low _)
sites_counted text_from data_from (site ∷ in_text) in_data = rw (ne_eqb (suc (length in_text)) 0 (λ none. absurd (omega arith))) (counted_low _)

table_counted : (all : Sections) → counted (not (eqb (length (layout_of all).table) 0)) ≤ counted (has_sites all)
unfolding layout_of
table_counted all = sites_counted (layout_of all).text_from (layout_of all).data_from all.in_text.sites all.in_data.sites

pub headers_fit : (entry : ℕ) (all : Sections) → IsLaidOut all → length (headers_of entry (layout_of all) all) ≤ (layout_of all).headers
headers_fit entry all out = omega (arith, length-headers_of entry (layout_of all) all, length-section_table (layout_of all) all, table_counted all)

-- ---- where the table lies in the file

table_in_file : (entry : ℕ) (all : Sections) → IsLaidOut all → (k : ℕ) → k < length (layout_of all).table → get_or (image_of entry all) (reloc_raw (layout_of all) all + k) 0 ≡ get_or (layout_of all).table k 0
unfolding image_of file_of
table_in_file entry all out k below =
    let layout : Layout = layout_of all in
    let headers : List ℕ = padded layout.headers (headers_of entry layout all) in
    let text : List ℕ = raw_bytes layout all.in_text.bytes in
    let cells : List ℕ = raw_bytes layout all.in_data.bytes in
    let long : length (headers ++ text ++ cells) ≡ reloc_raw layout all = omega (
      arith,
      length-append (headers ++ text) cells,
      length-append headers text,
      length-padded layout.headers (headers_of entry layout all) (headers_fit entry all out),
      length-padded (raw_size layout all.in_text.bytes) all.in_text.bytes out.text_fits,
      length-padded (raw_size layout all.in_data.bytes) all.in_data.bytes out.data_fits,
    ) in
    ap (λ (n : ℕ). get_or (headers ++ text ++ cells ++ raw_bytes layout layout.table) (n + k) 0) (sym long) ∙ get_or-append-add (headers ++ text ++ cells) (raw_bytes layout layout.table) k 0 ∙ get_or_append_left layout.table _ 0 k below

-- ---- and in the placed image

-- a section that ends before an offset
not_there : (section : Section) (at : ℕ) → section.at + section.copied ≤ at → copies_to at section ≡ false
not_there section at behind = elim (cases_Bool (leb section.at at)) [
  | inl begun ↦ rw (begun, le-ltb at (section.at + section.copied) behind) refl
  | inr ahead ↦ rw ahead refl
]

table_section : (layout : Layout) (all : Sections) (k : ℕ) → k < length layout.table → layout.text_from + length all.in_text.bytes ≤ layout.data_from → layout.data_from + length all.in_data.bytes ≤ layout.reloc_from
    → find (copies_to (layout.reloc_from + k)) (sections_read layout all) ≡ Some (section_of layout.table layout.reloc_from (reloc_raw layout all) 1)
unfolding sections_read
table_section layout all k below text_behind data_behind =
    let at : ℕ = layout.reloc_from + k in
    let some : eqb (length layout.table) 0 ≡ false = ne_eqb (length layout.table) 0 (λ none. absurd (omega arith)) in
    let text = not_there (section_of all.in_text.bytes layout.text_from layout.headers 5) at (omega arith) in
    let cells = not_there (section_of all.in_data.bytes layout.data_from (data_raw layout all) 3) at (omega arith) in
    let here : copies_to at (section_of layout.table layout.reloc_from (reloc_raw layout all) 1) ≡ true = rw (le-leb layout.reloc_from at (omega arith), lt-ltb at (layout.reloc_from + length layout.table) (omega arith)) refl in
    elim (cases_Bool (eqb (length all.in_data.bytes) 0)) [
      | inl none ↦ rw (text, none, some, here) refl
      | inr more ↦ rw (text, more, cells, some, here) refl
    ]

table_byte : (entry : ℕ) (all : Sections) → IsLaidOut all → (k : ℕ) → k < length (layout_of all).table
    → placed_byte (fields_read entry (layout_of all) all) (image_of entry all) ((layout_of all).reloc_from + k) ≡ get_or (layout_of all).table k 0
unfolding placed_byte fields_read
table_byte entry all out k below =
    let layout : Layout = layout_of all in
    let from : layout.reloc_from + k - layout.reloc_from ≡ k = omega arith in
    rw (le-ltb (layout.reloc_from + k) layout.headers (omega arith), table_section layout all k below out.data_behind out.reloc_behind, from) (table_in_file entry all out k below)

slice_is : (bytes part : List ℕ) (at : ℕ) → at + length part ≤ length bytes → ((k : ℕ) → k < length part → get_or bytes (at + k) 0 ≡ get_or part k 0) → slice_range bytes at (at + length part) ≡ part
slice_is bytes part at fits same =
    let n : ℕ = length part in
    let whole : at + n - at ≡ n = omega arith in
    let long : length (take n (drop at bytes)) ≡ n = length-take-le n (drop at bytes) (omega (arith, length-drop at bytes)) in
    rw whole (ext_get_or 0 (take n (drop at bytes)) part long (λ k below. get_or-take n (drop at bytes) k 0 (omega arith) ∙ get_or-drop at bytes k 0 ∙ same k (omega arith)))

table_there : (entry : ℕ) (all : Sections) → IsLaidOut all → (placed : List ℕ) → IsPlaced (fields_read entry (layout_of all) all) (image_of entry all) placed
    → slice_range placed (directory_at (layout_of all)) (directory_at (layout_of all) + length (layout_of all).table) ≡ (layout_of all).table
unfolding fields_read
table_there entry all out placed is =
    let layout : Layout = layout_of all in
    elim (cases_Bool (eqb (length layout.table) 0)) [
      | inl none ↦
          let empty = eqb-true (length layout.table) 0 none in
          rw none (slice_is placed layout.table 0 (omega arith) (λ k below. absurd (omega arith)))
      | inr some ↦
          let whole : layout.size ≤ in_pages layout.size = omega arith in
          let room : layout.reloc_from + length layout.table ≤ length placed = omega (arith, whole) in
          rw some (slice_is placed layout.table layout.reloc_from room (λ k below. is.bytes (layout.reloc_from + k) (omega arith) ∙ table_byte entry all out k below))
    ]

-- ---- what is read

table_is : (all : Sections) → (layout_of all).table ≡ table_of (sites_of (layout_of all).text_from (layout_of all).data_from all)
unfolding layout_of
table_is all = refl

pub sites_in_are : BlocksFollow → (entry : ℕ) (all : Sections) → IsSound entry all → IsLaidOut all → (placed : List ℕ) → IsPlaced (fields_read entry (layout_of all) all) (image_of entry all) placed
    → sites_in (fields_read entry (layout_of all) all) placed ≡ Ok (map site_read (sites_of (layout_of all).text_from (layout_of all).data_from all))
unfolding sites_in fields_read
sites_in_are blocks entry all sound out placed is =
    rw (table_there entry all out placed is, table_is all) (ascending_kept blocks (layout_of all).size _ (all_ascend all sound.text_sites sound.data_sites out) out.size)
