-- How long the file of an image is at most.
use Rattle.std.proofs.Common.{◌≡◌, ◌≤◌, ◌<◌, ℕ, ◌+◌, ◌-◌, ◌^◌, List, ◌++◌, length, codes, Bool, refl, inl, inr, arith, replicate, length-append}
use Rattle.std.proofs.lemmas.Bool.{cases_Bool}
use Rattle.std.proofs.lemmas.List.{length-replicate}
use Rattle.std.specs.Prelude.{◌==◌}
use Rattle.guest_build.specs.Image.{dos_header, coff_header, standard_fields, windows_fields, directories, section_header, section_header_if, section_table, headers_of, padded, raw_size, data_raw, reloc_raw, execute, read, write, file_of, image_of}
use Rattle.guest_build.specs.Layout.{Sections, Layout, layout_of}
use Rattle.guest_build.proofs.LayoutLemmas.{next_in_file}
use Rattle.guest_build.proofs.LowLemmas.{length-low_bytes}
use Rattle.guest_build.proofs.Sound.{IsLaidOut}

padded_short : (size : ℕ) (bytes : List ℕ) → length (padded size bytes) ≤ size + length bytes
padded_short size bytes = omega (arith, length-append bytes (replicate (size - length bytes) 0), length-replicate {A = ℕ} (size - length bytes) 0)

header_short : (name : List ℕ) (size at raw_size raw characteristics : ℕ) → length (section_header name size at raw_size raw characteristics) ≤ 40 + length name
unfolding section_header
header_short name size at raw_size raw characteristics =
    let start = padded_short 8 name in simp (length-append, length-low_bytes, length-replicate) (omega (arith, start))

header_if_short : (name : List ℕ) (size at raw_size raw characteristics : ℕ) → length (section_header_if name size at raw_size raw characteristics) ≤ 40 + length name
unfolding section_header_if
header_if_short name size at raw_size raw characteristics =
    elim (cases_Bool (size == 0)) [
      | inl e ↦ rw e (omega arith)
      | inr e ↦ rw e (header_short name size at raw_size raw characteristics)
    ]

three : (a b c : List ℕ) → length (a ++ b ++ c) ≡ length a + length b + length c
three a b c = omega (arith, length-append (a ++ b) c, length-append a b)

table_short : (l : Layout) (all : Sections) → length (section_table l all) ≤ 200
unfolding section_table
table_short l all =
    let text : List ℕ = section_header (codes ".text") (length all.in_text.bytes) l.text_from (raw_size l all.in_text.bytes) l.headers (read + execute) in
    let cells : List ℕ = section_header_if (codes ".data") (length all.in_data.bytes) l.data_from (raw_size l all.in_data.bytes) (data_raw l all) (read + write) in
    let relocs : List ℕ = section_header_if (codes ".reloc") (length l.table) l.reloc_from (raw_size l l.table) (reloc_raw l all) read in
    let one : length text ≤ 45 = header_short (codes ".text") (length all.in_text.bytes) l.text_from (raw_size l all.in_text.bytes) l.headers (read + execute) in
    let two : length cells ≤ 45 = header_if_short (codes ".data") (length all.in_data.bytes) l.data_from (raw_size l all.in_data.bytes) (data_raw l all) (read + write) in
    let more : length relocs ≤ 46 = header_if_short (codes ".reloc") (length l.table) l.reloc_from (raw_size l l.table) (reloc_raw l all) read in
    omega (arith, three text cells relocs, one, two, more)

headers_short : (entry : ℕ) (l : Layout) (all : Sections) → length (headers_of entry l all) ≤ 1000
unfolding headers_of dos_header coff_header standard_fields windows_fields directories
headers_short entry l all = simp (length-append, length-low_bytes, length-replicate) (omega (arith, table_short l all))

-- a file with its parts
parts_short : (headers text cells table : List ℕ) (a b c d : ℕ)
    → length (padded a headers ++ padded b text ++ padded c cells ++ padded d table) ≤ a + length headers + (b + length text) + (c + length cells) + (d + length table)
parts_short headers text cells table a b c d =
    let first = three (padded a headers) (padded b text) (padded c cells) in
    let whole = length-append (padded a headers ++ padded b text ++ padded c cells) (padded d table) in
    omega (arith, first, whole, padded_short a headers, padded_short b text, padded_short c cells, padded_short d table)

pub image_short : (entry : ℕ) (all : Sections) → IsLaidOut all → length (image_of entry all) ≤ 2 ^ 22
unfolding image_of file_of
image_short entry all laid =
    let l : Layout = layout_of all in
    let text = next_in_file l.alignment (length all.in_text.bytes) laid.unit (omega arith) in
    let cells = next_in_file l.alignment (length all.in_data.bytes) laid.unit (omega arith) in
    let table = next_in_file l.alignment (length l.table) laid.unit (omega arith) in
    let headers = headers_short entry l all in
    let parts = parts_short (headers_of entry l all) all.in_text.bytes all.in_data.bytes l.table l.headers (raw_size l all.in_text.bytes) (raw_size l all.in_data.bytes) (raw_size l l.table) in
    omega arith
