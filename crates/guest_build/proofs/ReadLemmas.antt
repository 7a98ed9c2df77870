-- An assembled image is read as what it was made of.
use Rattle.std.proofs.Common.{◌≡◌, ◌≤◌, ◌<◌, ◌⊎◌, ℕ, zero, suc, ◌+◌, ◌*◌, ◌%◌, ◌^◌, List, [], ◌∷◌, ◌++◌, length, Bool, true, false, Ok, refl, ap, ◌∙◌, sym, inl, inr, arith, rules, None}
use Rattle.std.proofs.lemmas.Bool.Decides.{nat_tests}
use Rattle.std.proofs.lemmas.Bool.{cases_Bool, le-leb}
use Rattle.std.specs.Prelude.{nat_le, nat_lt, ◌==◌, ◌&&◌, ◌||◌, not, if◌then◌else◌, Err}
use Rattle.pe_image.specs.Numbers.{u16_at, u32_at}
use Rattle.pe_image.specs.Checks.{Check, check, is_there, judged}
use Rattle.pe_image.specs.ImageOf.{Fields, signature_at, section_header_checks, table_checks, header_checks, section_checks, is_subsystem, is_alignment, is_inside, end_checks, image_at, field_checks, value_checks, image_of as read_image, sections_at}
use Rattle.pe_image.specs.declared.fault.PeFault.{PeFault}
use Rattle.pe_image.specs.declared.fault.PeFault.TheVariants as faults
use Rattle.pe_image.specs.declared.image.Section.{Section}
use Rattle.guest_build.specs.Image.{raw_size, data_raw, reloc_raw, directory_at, file_of, image_of}
use Rattle.guest_build.specs.Layout.{Sections, Layout, layout_of, has_sites}
use Rattle.guest_build.specs.Places.{section_count, round_up, file_alignment}
use Rattle.guest_build.specs.Read.{fields_read, sections_read, section_of, section_if, image_read}
use Rattle.guest_build.specs.Relocations.{place_of, placed, table_of, table_behind}
use Rattle.guest_build.specs.declared.relocation.Site.{Site}
use Rattle.guest_build.proofs.TableLemmas.{length_off}
use Rattle.guest_build.proofs.LayoutLemmas.{next_in_file, few_sections, file_reaches}
use Rattle.guest_build.proofs.FieldLemmas.{IsHeader, sections_are}
use Rattle.guest_build.proofs.FieldLemmas as fields
use Rattle.guest_build.proofs.Sound.{IsSound, IsLaidOut}

-- ---- checks that pass

-- all of them do
record Pass (checks : List Check) : Type 0 where
  pub all : judged {X = Unit {0}} checks tt ≡ Ok tt

none : Pass []
none = record { all = refl }

one_more : (good : Bool) (fault : PeFault) (checks : List Check) → good ≡ true → Pass checks → Pass (check good fault ∷ checks)
one_more good fault checks h rest = record { all = rw h rest.all }

-- checks behind those that pass decide
passed : {X Y : Type 0} (first others : List Check) (x : X) (y z : Y) → judged first y ≡ Ok z → judged (first ++ others) x ≡ judged others x
passed [] others x y z h = refl
passed (c ∷ cs) others x y z h =
    elim (cases_Bool c.passes) [
      | inl passes ↦ rw passes (passed cs others x y z (rw passes at h))
      | inr fails ↦ absurd (let e : Err c.fault ≡ Ok z = rw fails at h in cc)
    ]

both : (first others : List Check) → Pass first → Pass others → Pass (first ++ others)
both first others h k = record { all = passed first others tt tt tt h.all ∙ k.all }

-- a field that lies in the file
there : (bytes : List ℕ) (at width : ℕ) (checks : List Check) → at + width ≤ length bytes → Pass checks → Pass (is_there bytes at width ∷ checks)
there bytes at width checks h rest = one_more _ _ checks (le-leb _ _ h) rest

header_pass : (bytes : List ℕ) (at : ℕ) → at + 40 ≤ length bytes → Pass (section_header_checks bytes at)
header_pass bytes at room = search (rules, none, there) depth 20

table_pass : (bytes : List ℕ) (at n : ℕ) → at + 40 * n ≤ length bytes → Pass (table_checks bytes at n)
unfolding table_checks
table_pass bytes at zero room = none
table_pass bytes at (suc n) room = both (section_header_checks bytes at) (table_checks bytes (at + 40) n) (header_pass bytes at (omega arith)) (table_pass bytes (at + 40) n (omega arith))

-- ---- the fields of the file

fields_pass : (bytes : List ℕ) (count : ℕ) → u16_at bytes 0 ≡ 0x5a4d → signature_at bytes ≡ 0x40 → u32_at bytes 0x40 ≡ 0x4550 → u16_at bytes 0x44 ≡ 0x5064 → u16_at bytes 0x46 ≡ count → u16_at bytes 0x54 ≡ 240
    → u16_at bytes 0x58 ≡ 0x20b → u32_at bytes 0xc4 ≡ 16 → 0x148 + 40 * count ≤ length bytes → Pass (field_checks bytes)
unfolding field_checks
fields_pass bytes count magic signature pe machine sections optional kind directories room =
    rw (magic, signature, pe, machine, sections, optional, kind, directories) (search (rules, one_more, there, table_pass) depth 60)

-- ---- the values

subsystem_is : (n : ℕ) → 10 ≤ n → n ≤ 12 → is_subsystem n ≡ true
subsystem_is n h k = grind (arith, nat_tests)

alignment_is : (n base : ℕ) → (n ≡ 32) ⊎ (n ≡ 4096) → base % 4096 ≡ 0 → (is_alignment n && base % 4096 == 0) ≡ true
unfolding lib.Count.ones
alignment_is n base (inl e) h = rw (e, h) refl
alignment_is n base (inr e) h = rw (e, h) refl

values_pass : (file count : ℕ) (image : Fields) → image.headers ≤ file → image.headers ≤ image.size → (10 ≤ image.subsystem) × (image.subsystem ≤ 12) → (image.alignment ≡ 32) ⊎ (image.alignment ≡ 4096) → image.image_base % 4096 ≡ 0 → 1 ≤ image.size → image.size ≤ 2 ^ 20 → count ≤ 96 → Pass (header_checks file 240 16 count image)
values_pass file count image in_file in_image subsystem alignment base some small few =
    one_more _ _ _ (grind (arith, nat_tests)) (one_more _ _ _ (subsystem_is image.subsystem subsystem.0 subsystem.1) (one_more _ _ _ (alignment_is image.alignment image.image_base alignment base) (one_more _ _ _ (grind (arith, nat_tests)) none)))

inside_is : (file alignment size : ℕ) (section : Section) → section.at % alignment ≡ 0 → section.at + section.len ≤ size → section.raw + section.copied ≤ file → is_inside file alignment size section ≡ true
inside_is file alignment size section aligned within copied = grind (arith, nat_tests)

section_passes : (file alignment size before i : ℕ) (section : Section) (others : List Section) → section.at % alignment ≡ 0 → before ≤ section.at → section.at + section.len ≤ size → section.raw + section.copied ≤ file
    → Pass (section_checks file alignment size (section.at + section.len) (i + 1) others) → Pass (section_checks file alignment size before i (section ∷ others))
unfolding section_checks
section_passes file alignment size before i section others aligned behind within copied rest =
    one_more _ _ _ (inside_is file alignment size section aligned within copied) (one_more _ _ _ (le-leb before section.at behind) rest)

no_section : (file alignment size before i : ℕ) → Pass (section_checks file alignment size before i [])
unfolding section_checks
no_section file alignment size before i = none

-- ---- all checks

past : {X : Type 0} (first others : List Check) (x : X) → Pass first → judged (first ++ others) x ≡ judged others x
past first others x h = passed first others x tt tt h.all

ends : (image : Fields) → (image.reloc_len == 0 || nat_le (image.reloc_at + image.reloc_len) image.size) ≡ true
    → judged (end_checks image) image ≡ (if nat_le 1 image.entry && (image.entry % 2 == 0 && nat_lt image.entry image.size) then Ok image else Err faults.EntryOutside)
ends image h = rw h refl

the_values : (bytes : List ℕ) (count : ℕ) (image : Fields) → signature_at bytes ≡ 0x40 → u16_at bytes 0x54 ≡ 240 → u32_at bytes 0xc4 ≡ 16 → u16_at bytes 0x46 ≡ count
    → value_checks bytes image ≡ header_checks (length bytes) 240 16 count image ++ (section_checks (length bytes) image.alignment image.size image.headers 0 image.sections ++ end_checks image)
unfolding value_checks
the_values bytes count image signature optional directories sections = rw (signature, optional, directories, sections) refl

read_by : (bytes : List ℕ) (count : ℕ) (image : Fields) → Pass (field_checks bytes) → image_at bytes ≡ image → signature_at bytes ≡ 0x40 → u16_at bytes 0x54 ≡ 240 → u32_at bytes 0xc4 ≡ 16 → u16_at bytes 0x46 ≡ count
    → Pass (header_checks (length bytes) 240 16 count image) → Pass (section_checks (length bytes) image.alignment image.size image.headers 0 image.sections) → (image.reloc_len == 0 || nat_le (image.reloc_at + image.reloc_len) image.size) ≡ true
    → read_image bytes ≡ (if nat_le 1 image.entry && (image.entry % 2 == 0 && nat_lt image.entry image.size) then Ok image else Err faults.EntryOutside)
unfolding read_image
read_by bytes count image there is signature optional directories sections values inside relocations =
    rw (
      is,
      past (field_checks bytes) (value_checks bytes image) image there,
      the_values bytes count image signature optional directories sections,
      past (header_checks (length bytes) 240 16 count image) (section_checks (length bytes) image.alignment image.size image.headers 0 image.sections ++ end_checks image) image values,
      past (section_checks (length bytes) image.alignment image.size image.headers 0 image.sections) (end_checks image) image inside,
    ) (ends image relocations)

-- ---- the sections

some : (n : ℕ) → (suc n == 0) ≡ false
some n = grind (arith, nat_tests)

some_table : (site : Site) (others : List Site) → (length (table_of (site ∷ others)) == 0) ≡ false
unfolding table_of
some_table site others = grind (arith, nat_tests, length_off None false site others refl)

has_table : (text_from data_from : ℕ) (text cells : List Site) → (length text == 0 && length cells == 0) ≡ (length (table_of (placed text_from text ++ placed data_from cells)) == 0)
unfolding table_of table_behind
has_table text_from data_from [] [] = refl
has_table text_from data_from [] (site ∷ cells) = some (length cells) ∙ sym (some_table (place_of data_from site) (placed data_from cells))
has_table text_from data_from (site ∷ text) cells = ap (λ b. b && length cells == 0) (some (length text)) ∙ sym (some_table (place_of text_from site) (placed text_from text ++ placed data_from cells))

-- sites are there exactly where the table isn't empty
sites_are : (all : Sections) → has_sites all ≡ not (length (layout_of all).table == 0)
unfolding layout_of
sites_are all = ap not (has_table _ _ all.in_text.sites all.in_data.sites)

-- nothing has no bytes in the file
no_raw : (unit n : ℕ) → (unit ≡ 32) ⊎ (unit ≡ 4096) → n ≡ 0 → round_up (file_alignment unit) n ≡ 0
no_raw unit n (inl e) h = rw (e, h) refl
no_raw unit n (inr e) h = rw (e, h) refl

module _ (entry : ℕ) (all : Sections) (sound : IsSound entry all) (laid : IsLaidOut all) where
  abbrev l : Layout
  l = layout_of all

  abbrev file : List ℕ
  file = file_of entry l all

  -- each number of a section header fits
  header_fits : (bytes : List ℕ) (from raw : ℕ) → length bytes ≤ 2 ^ 20 → from ≤ 2 ^ 20 → raw ≤ 2 ^ 24 → length bytes ≤ raw_size l bytes → IsHeader (length bytes) from (raw_size l bytes) raw
  header_fits bytes from raw short near low enough =
      let next = next_in_file l.alignment (length bytes) laid.unit (omega arith) in
      record { size_fits = omega arith; from_fits = omega arith; raw_size_fits = omega arith; raw_fits = omega arith; enough = enough; empty = no_raw l.alignment (length bytes) laid.unit }

  raw_near : (bytes : List ℕ) → length bytes ≤ 2 ^ 20 → raw_size l bytes < 2 ^ 21
  raw_near bytes short = let next = next_in_file l.alignment (length bytes) laid.unit (omega arith) in omega arith

  abbrev count : ℕ
  count = section_count (length all.in_data.bytes) (has_sites all)

  sections_found : sections_at file 0x148 count ≡ sections_read l all
  sections_found =
      let text = raw_near all.in_text.bytes (omega arith) in
      let cells = raw_near all.in_data.bytes (omega arith) in
      sections_are entry l all
      (header_fits all.in_text.bytes l.text_from l.headers (omega arith) (omega arith) (omega arith) laid.text_fits)
      (header_fits all.in_data.bytes l.data_from (data_raw l all) (omega arith) (omega arith) (omega arith) laid.data_fits)
      (header_fits l.table l.reloc_from (reloc_raw l all) (omega arith) (omega arith) (omega arith) laid.table_fits)
      (sites_are all)

  directory_small : directory_at l ≤ 2 ^ 20
  directory_small =
      elim (cases_Bool (length l.table == 0)) [
        | inl e ↦ rw e (omega arith)
        | inr e ↦ rw e (omega arith)
      ]

  image_is : image_at file ≡ fields_read entry l all
  unfolding image_at fields_read
  image_is =
      rw (
        fields.signature_is entry l all,
        fields.optional_is entry l all,
        fields.count_is entry l all,
        fields.directories_are entry l all,
        fields.flags_is entry l all,
        sections_found,
        fields.subsystem_is entry l all (omega (arith, sound.subsystem.0, sound.subsystem.1)),
        fields.base_is entry l all sound.base_fits,
        fields.alignment_is entry l all (omega arith),
        fields.size_is entry l all (omega arith),
        fields.headers_is entry l all (omega arith),
        fields.entry_is entry l all (omega arith),
        fields.reloc_at_is entry l all (omega (arith, directory_small)),
        fields.reloc_len_is entry l all (omega arith),
      ) refl

  fields_there : Pass (field_checks file)
  fields_there =
      fields_pass file count (fields.magic_is entry l all) (fields.signature_is entry l all) (fields.pe_is entry l all) (fields.machine_is entry l all) (fields.count_is entry l all) (fields.optional_is entry l all) (fields.kind_is entry l all) (fields.directories_are entry l all)
      (omega (arith, file_reaches entry l all))

  values_right : Pass (header_checks (length file) 240 16 count (fields_read entry l all))
  unfolding fields_read
  values_right = values_pass (length file) count (fields_read entry l all) (omega (arith, file_reaches entry l all)) (omega arith) sound.subsystem laid.unit sound.base_pages (omega arith) laid.size (omega (arith, few_sections (length all.in_data.bytes) (has_sites all)))

  table_right : (before i : ℕ) → before ≤ l.reloc_from → Pass (section_checks (length file) l.alignment l.size before i (section_if l.table l.reloc_from (reloc_raw l all) 1))
  table_right before i behind =
      elim (cases_Bool (length l.table == 0)) [
        | inl e ↦ rw e (no_section (length file) l.alignment l.size before i)
        | inr e ↦ rw e (section_passes (length file) l.alignment l.size before i (section_of l.table l.reloc_from (reloc_raw l all) 1) [] laid.reloc_aligned behind laid.end (omega (arith, file_reaches entry l all)) (no_section _ _ _ _ _))
      ]

  data_right : (before i : ℕ) → before ≤ l.data_from → Pass (section_checks (length file) l.alignment l.size before i (section_if all.in_data.bytes l.data_from (data_raw l all) 3 ++ section_if l.table l.reloc_from (reloc_raw l all) 1))
  data_right before i behind =
      elim (cases_Bool (length all.in_data.bytes == 0)) [
        | inl e ↦ rw e (table_right before i (omega arith))
        | inr e ↦ rw e (section_passes (length file) l.alignment l.size before i (section_of all.in_data.bytes l.data_from (data_raw l all) 3) (section_if l.table l.reloc_from (reloc_raw l all) 1) laid.data_aligned behind (omega arith) (omega (arith, file_reaches entry l all)) (table_right (l.data_from + length all.in_data.bytes) (i + 1) laid.reloc_behind))
      ]

  sections_right : Pass (section_checks (length file) l.alignment l.size l.headers 0 (sections_read l all))
  unfolding sections_read
  sections_right =
      section_passes (length file) l.alignment l.size l.headers 0 (section_of all.in_text.bytes l.text_from l.headers 5) (section_if all.in_data.bytes l.data_from (data_raw l all) 3 ++ section_if l.table l.reloc_from (reloc_raw l all) 1) laid.text_aligned laid.text_behind (omega arith) (omega (arith, file_reaches entry l all))
      (data_right (l.text_from + length all.in_text.bytes) 1 laid.data_behind)

  table_inside : (length l.table == 0 || nat_le (directory_at l + length l.table) l.size) ≡ true
  table_inside =
      elim (cases_Bool (length l.table == 0)) [
        | inl e ↦ rw e refl
        | inr e ↦ rw e (le-leb (l.reloc_from + length l.table) l.size laid.end)
      ]

  pub read : read_image (image_of entry all) ≡ image_read entry l all
  unfolding image_of image_read fields_read
  read = read_by file count (fields_read entry l all) fields_there image_is (fields.signature_is entry l all) (fields.optional_is entry l all) (fields.directories_are entry l all) (fields.count_is entry l all) values_right sections_right table_inside
