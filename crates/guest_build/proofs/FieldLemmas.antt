-- The fields of an image's file.
use Rattle.std.proofs.Common.{◌≡◌, ◌≤◌, ◌<◌, ℕ, zero, suc, ◌+◌, ◌-◌, ◌^◌, min, List, [], ◌∷◌, ◌++◌, length, refl, sym, ap, ◌∙◌, append_assoc, Bool, true, false, inl, inr, arith}
use Rattle.std.proofs.lemmas.Bool.{cases_Bool}
use Rattle.std.proofs.lemmas.Bool.Decides.{nat_tests}
use Rattle.std.specs.Prelude.{◌==◌, not, codes, if◌then◌else◌}
use Rattle.uh_base.specs.LittleEndian.{low_bytes}
use Rattle.pe_image.specs.Numbers.{u16_at, u32_at, u64_at}
use Rattle.pe_image.specs.ImageOf.{length_of, rights_of, section_at, sections_at}
use Rattle.pe_image.specs.declared.image.Section.{Section}
use Rattle.guest_build.specs.Image.{dos_header, coff_header, standard_fields, windows_fields, directories, directory_at, section_header, section_header_if, section_table, headers_of, file_of, raw_size, data_raw, reloc_raw, raw_bytes, execute, read, write, zeros}
use Rattle.guest_build.specs.Layout.{Sections, Layout, has_sites}
use Rattle.guest_build.specs.Places.{base_in, subsystem_in, section_count, counted}
use Rattle.guest_build.specs.Read.{section_of, sections_read}
use Rattle.guest_build.proofs.LayoutLemmas.{few_sections}
use Rattle.guest_build.proofs.NumberLemmas.{u32_past, u16_low, u32_low, u64_low}

-- ---- section headers behind a part

section_past : (a b : List ℕ) (at k : ℕ) → at ≡ length a + k → section_at (a ++ b) at ≡ section_at b k
unfolding section_at
section_past a b at k e =
    rw (u32_past a b (at + 8) (k + 8) (omega arith), u32_past a b (at + 12) (k + 12) (omega arith), u32_past a b (at + 16) (k + 16) (omega arith), u32_past a b (at + 20) (k + 20) (omega arith), u32_past a b (at + 36) (k + 36) (omega arith)) refl

pub sections_past : (a b : List ℕ) (at k n : ℕ) → at ≡ length a + k → sections_at (a ++ b) at n ≡ sections_at b k n
unfolding sections_at
sections_past a b at k zero e = refl
sections_past a b at k (suc n) e = rw (section_past a b at k e, sections_past a b (at + 40) (k + 40) n (omega arith)) refl

-- ---- the section table

-- a section header and what is behind it, where the name is filled up
abbrev header_and : (name : List ℕ) (size from raw_size raw characteristics : ℕ) → List ℕ → List ℕ
header_and name size from raw_size raw characteristics rest =
    name ++ (low_bytes 4 size ++ (low_bytes 4 from ++ (low_bytes 4 raw_size ++ (low_bytes 4 raw ++ (zeros 12 ++ (low_bytes 4 characteristics ++ rest))))))

-- 32 bits are enough for the numbers of a section header, and an empty section has no bytes in the file
pub record IsHeader (size from raw_size raw : ℕ) : Type 0 where
  pub size_fits : size < 2 ^ 32
  pub from_fits : from < 2 ^ 32
  pub raw_size_fits : raw_size < 2 ^ 32
  pub raw_fits : raw < 2 ^ 32
  pub enough : size ≤ raw_size
  pub empty : size ≡ 0 → raw_size ≡ 0

abbrev made : (size from raw_size raw characteristics : ℕ) → Section
made size from raw_size raw characteristics = let len = length_of size raw_size in record { at = from; len = len; raw = raw; copied = min len raw_size; rights = rights_of characteristics }

module _ (b0 b1 b2 b3 b4 b5 b6 b7 size from raw_size raw characteristics : ℕ) (rest : List ℕ) (fits : IsHeader size from raw_size raw) (flags : characteristics < 2 ^ 32) where
  abbrev whole : List ℕ
  whole = header_and (b0 ∷ b1 ∷ b2 ∷ b3 ∷ b4 ∷ b5 ∷ b6 ∷ b7 ∷ []) size from raw_size raw characteristics rest

  size_there : u32_at whole 8 ≡ size
  unfolding u32_at low_bytes
  size_there = u32_low size [] fits.size_fits

  from_there : u32_at whole 12 ≡ from
  unfolding u32_at low_bytes
  from_there = u32_low from [] fits.from_fits

  raw_size_there : u32_at whole 16 ≡ raw_size
  unfolding u32_at low_bytes
  raw_size_there = u32_low raw_size [] fits.raw_size_fits

  raw_there : u32_at whole 20 ≡ raw
  unfolding u32_at low_bytes
  raw_there = u32_low raw [] fits.raw_fits

  flags_there : u32_at whole 36 ≡ characteristics
  unfolding u32_at low_bytes
  flags_there = u32_low characteristics [] flags

  is_made : section_at whole 0 ≡ made size from raw_size raw characteristics
  unfolding section_at
  is_made = rw (size_there, from_there, raw_size_there, raw_there, flags_there) refl

  others : (n : ℕ) → sections_at whole 40 n ≡ sections_at rest 0 n
  unfolding low_bytes
  others n = sections_past (header_and (b0 ∷ b1 ∷ b2 ∷ b3 ∷ b4 ∷ b5 ∷ b6 ∷ b7 ∷ []) size from raw_size raw characteristics []) rest 40 0 n refl

  len_there : length_of size raw_size ≡ size
  len_there =
      elim (cases_Bool (size == 0)) [
        | inl e ↦ let none : size ≡ 0 = grind (arith, nat_tests, e) in rw e (fits.empty none ∙ sym none)
        | inr e ↦ rw e refl
      ]

  pub one_found : (n : ℕ) → sections_at whole 0 (suc n) ≡ record { at = from; len = size; raw = raw; copied = size; rights = rights_of characteristics } ∷ sections_at rest 0 n
  unfolding sections_at
  one_found n = let copies : min size raw_size ≡ size = omega (arith, fits.enough) in rw (is_made, len_there, copies, others n) refl

none_found : (bytes : List ℕ) (at : ℕ) → sections_at bytes at 0 ≡ []
unfolding sections_at
none_found bytes at = refl

-- the sections whose headers stand in a table, the second and the third where they are not empty
module _ (l : Layout) (all : Sections) (text_fits : IsHeader (length all.in_text.bytes) l.text_from (raw_size l all.in_text.bytes) l.headers) (data_fits : IsHeader (length all.in_data.bytes) l.data_from (raw_size l all.in_data.bytes) (data_raw l all)) (table_fits : IsHeader (length l.table) l.reloc_from (raw_size l l.table) (reloc_raw l all)) where
  abbrev text_header : List ℕ
  text_header = section_header (codes ".text") (length all.in_text.bytes) l.text_from (raw_size l all.in_text.bytes) l.headers (read + execute)

  abbrev data_header : List ℕ
  data_header = section_header (codes ".data") (length all.in_data.bytes) l.data_from (raw_size l all.in_data.bytes) (data_raw l all) (read + write)

  abbrev reloc_header : List ℕ
  reloc_header = section_header (codes ".reloc") (length l.table) l.reloc_from (raw_size l l.table) (reloc_raw l all) read

  text_found : (n : ℕ) (rest : List ℕ) → sections_at (text_header ++ rest) 0 (suc n) ≡ section_of all.in_text.bytes l.text_from l.headers 5 ∷ sections_at rest 0 n
  unfolding section_header low_bytes
  text_found n rest = one_found 46 116 101 120 116 0 0 0 _ _ _ _ (read + execute) rest text_fits (omega arith) n

  data_found : (n : ℕ) (rest : List ℕ) → sections_at (data_header ++ rest) 0 (suc n) ≡ section_of all.in_data.bytes l.data_from (data_raw l all) 3 ∷ sections_at rest 0 n
  unfolding section_header low_bytes
  data_found n rest = one_found 46 100 97 116 97 0 0 0 _ _ _ _ (read + write) rest data_fits (omega arith) n

  reloc_found : (n : ℕ) (rest : List ℕ) → sections_at (reloc_header ++ rest) 0 (suc n) ≡ section_of l.table l.reloc_from (reloc_raw l all) 1 ∷ sections_at rest 0 n
  unfolding section_header low_bytes
  reloc_found n rest = one_found 46 114 101 108 111 99 0 0 _ _ _ _ read rest table_fits (omega arith) n

  headers_found : (a b : Bool) (behind : List ℕ) → sections_at (text_header ++ (if a then [] else data_header) ++ (if b then [] else reloc_header) ++ behind) 0 (1 + counted (not a) + counted (not b))
      ≡ section_of all.in_text.bytes l.text_from l.headers 5 ∷ ((if a then [] else section_of all.in_data.bytes l.data_from (data_raw l all) 3 ∷ []) ++ (if b then [] else section_of l.table l.reloc_from (reloc_raw l all) 1 ∷ []))
  unfolding section_header low_bytes
  headers_found true true behind = text_found 0 behind ∙ ap (λ xs. section_of all.in_text.bytes l.text_from l.headers 5 ∷ xs) (none_found behind 0)
  headers_found true false behind = text_found 1 (reloc_header ++ behind) ∙ ap (λ xs. section_of all.in_text.bytes l.text_from l.headers 5 ∷ xs) (reloc_found 0 behind ∙ ap (λ xs. section_of l.table l.reloc_from (reloc_raw l all) 1 ∷ xs) (none_found behind 0))
  headers_found false true behind = text_found 1 (data_header ++ behind) ∙ ap (λ xs. section_of all.in_text.bytes l.text_from l.headers 5 ∷ xs) (data_found 0 behind ∙ ap (λ xs. section_of all.in_data.bytes l.data_from (data_raw l all) 3 ∷ xs) (none_found behind 0))
  headers_found false false behind =
      text_found 2 (data_header ++ (reloc_header ++ behind))
      ∙ ap (λ xs. section_of all.in_text.bytes l.text_from l.headers 5 ∷ xs) (data_found 1 (reloc_header ++ behind)
      ∙ ap (λ xs. section_of all.in_data.bytes l.data_from (data_raw l all) 3 ∷ xs) (reloc_found 0 behind
      ∙ ap (λ xs. section_of l.table l.reloc_from (reloc_raw l all) 1 ∷ xs) (none_found behind 0)))

  table_found : (moved : Bool) (behind : List ℕ) → moved ≡ not (length l.table == 0) → sections_at (section_table l all ++ behind) 0 (section_count (length all.in_data.bytes) moved) ≡ sections_read l all
  unfolding section_table section_header_if sections_read
  table_found moved behind e = rw e (headers_found (length all.in_data.bytes == 0) (length l.table == 0) behind)

-- ---- the headers

regroup : (a b c d e : List ℕ) → a ++ b ++ c ++ d ++ e ≡ a ++ (b ++ (c ++ (d ++ e)))
regroup a b c d e = simp append_assoc

module _ (entry : ℕ) (l : Layout) (all : Sections) where
  abbrev front : List ℕ
  front = dos_header ++ coff_header (section_count (length all.in_data.bytes) (has_sites all)) ++ standard_fields entry (base_in all.settings) l.alignment ++ windows_fields l.size l.headers (subsystem_in all.settings) ++ directories (directory_at l) (length l.table)

  abbrev behind_table : List ℕ
  behind_table = zeros (l.headers - length (headers_of entry l all)) ++ (raw_bytes l all.in_text.bytes ++ (raw_bytes l all.in_data.bytes ++ raw_bytes l l.table))

  file_parts : file_of entry l all ≡ front ++ (section_table l all ++ behind_table)
  unfolding file_of headers_of dos_header coff_header standard_fields windows_fields directories low_bytes
  file_parts = ap (λ xs. front ++ xs) (regroup (section_table l all) (zeros (l.headers - length (headers_of entry l all))) (raw_bytes l all.in_text.bytes) (raw_bytes l all.in_data.bytes) (raw_bytes l l.table))

  past_front : (n : ℕ) → sections_at (file_of entry l all) 0x148 n ≡ sections_at (section_table l all ++ behind_table) 0 n
  unfolding dos_header coff_header standard_fields windows_fields directories low_bytes
  past_front n = ap (λ xs. sections_at xs 0x148 n) file_parts ∙ sections_past front (section_table l all ++ behind_table) 0x148 0 n refl

  pub sections_are : IsHeader (length all.in_text.bytes) l.text_from (raw_size l all.in_text.bytes) l.headers → IsHeader (length all.in_data.bytes) l.data_from (raw_size l all.in_data.bytes) (data_raw l all) → IsHeader (length l.table) l.reloc_from (raw_size l l.table) (reloc_raw l all)
      → has_sites all ≡ not (length l.table == 0) → sections_at (file_of entry l all) 0x148 (section_count (length all.in_data.bytes) (has_sites all)) ≡ sections_read l all
  sections_are text cells table sites = past_front (section_count (length all.in_data.bytes) (has_sites all)) ∙ table_found l all text cells table (has_sites all) behind_table sites

  pub magic_is : u16_at (file_of entry l all) 0 ≡ 0x5a4d
  unfolding u16_at file_of headers_of dos_header low_bytes
  magic_is = refl

  pub signature_is : u32_at (file_of entry l all) 0x3c ≡ 0x40
  unfolding u32_at file_of headers_of dos_header low_bytes
  signature_is = refl

  pub pe_is : u32_at (file_of entry l all) 0x40 ≡ 0x4550
  unfolding u32_at file_of headers_of dos_header coff_header low_bytes
  pe_is = refl

  pub machine_is : u16_at (file_of entry l all) 0x44 ≡ 0x5064
  unfolding u16_at file_of headers_of dos_header coff_header low_bytes
  machine_is = refl

  pub count_is : u16_at (file_of entry l all) 0x46 ≡ section_count (length all.in_data.bytes) (has_sites all)
  unfolding u16_at file_of headers_of dos_header coff_header low_bytes
  count_is = u16_low (section_count (length all.in_data.bytes) (has_sites all)) [] (omega (arith, few_sections (length all.in_data.bytes) (has_sites all)))

  pub optional_is : u16_at (file_of entry l all) 0x54 ≡ 240
  unfolding u16_at file_of headers_of dos_header coff_header low_bytes
  optional_is = refl

  pub flags_is : u16_at (file_of entry l all) 0x56 ≡ 0
  unfolding u16_at file_of headers_of dos_header coff_header low_bytes
  flags_is = refl

  pub kind_is : u16_at (file_of entry l all) 0x58 ≡ 0x20b
  unfolding u16_at file_of headers_of dos_header coff_header standard_fields low_bytes
  kind_is = refl

  pub entry_is : entry < 2 ^ 32 → u32_at (file_of entry l all) 0x68 ≡ entry
  unfolding u32_at file_of headers_of dos_header coff_header standard_fields low_bytes
  entry_is = u32_low entry []

  pub base_is : base_in all.settings < 2 ^ 64 → u64_at (file_of entry l all) 0x70 ≡ base_in all.settings
  unfolding u64_at u32_at file_of headers_of dos_header coff_header standard_fields low_bytes
  base_is = u64_low (base_in all.settings) []

  pub alignment_is : l.alignment < 2 ^ 32 → u32_at (file_of entry l all) 0x78 ≡ l.alignment
  unfolding u32_at file_of headers_of dos_header coff_header standard_fields low_bytes
  alignment_is = u32_low l.alignment []

  pub size_is : l.size < 2 ^ 32 → u32_at (file_of entry l all) 0x90 ≡ l.size
  unfolding u32_at file_of headers_of dos_header coff_header standard_fields windows_fields low_bytes
  size_is = u32_low l.size []

  pub headers_is : l.headers < 2 ^ 32 → u32_at (file_of entry l all) 0x94 ≡ l.headers
  unfolding u32_at file_of headers_of dos_header coff_header standard_fields windows_fields low_bytes
  headers_is = u32_low l.headers []

  pub subsystem_is : subsystem_in all.settings < 2 ^ 16 → u16_at (file_of entry l all) 0x9c ≡ subsystem_in all.settings
  unfolding u16_at file_of headers_of dos_header coff_header standard_fields windows_fields low_bytes
  subsystem_is = u16_low (subsystem_in all.settings) []

  pub directories_are : u32_at (file_of entry l all) 0xc4 ≡ 16
  unfolding u32_at file_of headers_of dos_header coff_header standard_fields windows_fields low_bytes
  directories_are = refl

  pub reloc_at_is : directory_at l < 2 ^ 32 → u32_at (file_of entry l all) 0xf0 ≡ directory_at l
  unfolding u32_at file_of headers_of dos_header coff_header standard_fields windows_fields directories low_bytes
  reloc_at_is = u32_low (directory_at l) []

  pub reloc_len_is : length l.table < 2 ^ 32 → u32_at (file_of entry l all) 0xf4 ≡ length l.table
  unfolding u32_at file_of headers_of dos_header coff_header standard_fields windows_fields directories low_bytes
  reloc_len_is = u32_low (length l.table) []
