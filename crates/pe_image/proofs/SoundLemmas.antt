-- What holds of each image that is read.
use Rattle.std.proofs.Common.{◌≡◌, ℕ, ◌+◌, ◌*◌, ◌%◌, ◌<◌, ◌≤◌, ◌⊎◌, zero, suc, List, [], ◌∷◌, ◌++◌, length, Bool, true, false, ◌&&◌, ◌||◌, ◌==◌, nat_le, nat_lt, Result, Ok, Err, refl, ap, ◌∙◌, arith, inl, inr, All}
use Rattle.std.specs.List.{AllPairs}
use Rattle.std.proofs.lemmas.Bool.{cases_Bool}
use borrow.Author.Tests.{ltb-true, leb-true}
use Rattle.std.proofs.lemmas.Bool.Decides.{nat_tests}
use Rattle.std.proofs.lemmas.List.Elements.{All-nil, All-cons}
use Rattle.std.proofs.lemmas.List.Kept.{AllPairs-cons}
use Rattle.pe_image.specs.declared.fault.PeFault.{PeFault}
use Rattle.pe_image.specs.declared.fault.PeFault.TheVariants as faults
use Rattle.pe_image.specs.declared.image.Section.{Section}
use Rattle.pe_image.specs.Checks.{Check, check, judged}
use Rattle.pe_image.specs.ImageOf.{Fields, section_at, sections_at, section_checks, section_count, table_at, optional_size, directory_count, field_checks, value_checks, header_checks, end_checks, image_at, image_of, is_inside, is_subsystem, is_alignment, is_size}
use Rattle.pe_image.specs.Sound.{EndsBefore, IsImage, IsCopiedFrom}
use Rattle.pe_image.proofs.SectionLemmas.{judged_value}

-- each of the checks passes
pub first_passes : {X : Type 0} (c : Check) (cs : List Check) (x y : X) → judged (c ∷ cs) x ≡ Ok y → (c.passes ≡ true) × (judged cs x ≡ Ok y)
first_passes c cs x y h =
    elim (cases_Bool c.passes) [
      | inl passes ↦ (passes, rw passes at h)
      | inr fails ↦ absurd (let e : ◌≡◌ {A = Result _ PeFault} (Err c.fault) (Ok y) = rw fails at h in cc)
    ]

pub both_pass : {X : Type 0} (first cs : List Check) (x y : X) → judged (first ++ cs) x ≡ Ok y → (judged first x ≡ Ok x) × (judged cs x ≡ Ok y)
both_pass [] cs x y h = (refl, h)
both_pass (c ∷ first) cs x y h =
    let parts = first_passes c (first ++ cs) x y h in
    let rest = both_pass first cs x y parts.1 in
    (rw parts.0 rest.0, rest.1)

-- ---- sections

-- a section that passes its checks behind an address
pub record Follows (file alignment size before : ℕ) (section : Section) : Type 0 where
  pub aligned : section.at % alignment ≡ 0
  pub end : section.at + section.len ≤ size
  pub copied : (section.copied ≡ 0) ⊎ (section.raw + section.copied ≤ file)
  pub behind : before ≤ section.at

abbrev pub InOrder : (file alignment size before : ℕ) → List Section → Type 0
InOrder file alignment size before [] = Unit {0}
InOrder file alignment size before (section ∷ sections) = Follows file alignment size before section × InOrder file alignment size (section.at + section.len) sections

copied_fact : (copied raw_end file : ℕ) → (copied == 0 || nat_le raw_end file) ≡ true → (copied ≡ 0) ⊎ (raw_end ≤ file)
copied_fact copied raw_end file h =
    elim (cases_Bool (copied == 0)) [
      | inl none ↦ inl (grind (arith, nat_tests))
      | inr some ↦ inr (let within : nat_le raw_end file ≡ true = rw some at h in grind (arith, nat_tests))
    ]

pub both_true : (a b : Bool) → (a && b) ≡ true → (a ≡ true) × (b ≡ true)
both_true true true h = (refl, refl)
both_true true false h = absurd (let e : false ≡ true = h in cc)
both_true false b h = absurd (let e : false ≡ true = h in cc)

follows : (file alignment size before : ℕ) (section : Section) → is_inside file alignment size section ≡ true → nat_le before section.at ≡ true → Follows file alignment size before section
follows file alignment size before section inside behind =
    let parts = both_true (section.at % alignment == 0) (nat_le (section.at + section.len) size && (section.copied == 0 || nat_le (section.raw + section.copied) file)) inside in
    let ends = both_true (nat_le (section.at + section.len) size) (section.copied == 0 || nat_le (section.raw + section.copied) file) parts.1 in
    let aligned : (section.at % alignment == 0) ≡ true = parts.0 in
    let end : nat_le (section.at + section.len) size ≡ true = ends.0 in
    record {
      aligned = grind (arith, nat_tests);
      end = grind (arith, nat_tests);
      copied = copied_fact section.copied (section.raw + section.copied) file ends.1;
      behind = grind (arith, nat_tests);
    }

pub in_order : {X : Type 0} (file alignment size before i : ℕ) (sections : List Section) (x y : X) → judged (section_checks file alignment size before i sections) x ≡ Ok y → InOrder file alignment size before sections
unfolding section_checks
in_order file alignment size before i [] x y h = tt
in_order file alignment size before i (section ∷ sections) x y h =
    let rest = section_checks file alignment size (section.at + section.len) (i + 1) sections in
    let one = first_passes (check (is_inside file alignment size section) (faults.SectionOutside i)) (check (nat_le before section.at) (faults.SectionOverlap i) ∷ rest) x y h in
    let two = first_passes (check (nat_le before section.at) (faults.SectionOverlap i)) rest x y one.1 in
    (follows file alignment size before section one.0 two.0, in_order file alignment size (section.at + section.len) (i + 1) sections x y two.1)

-- sections in order begin behind the first address
behind_all : (file alignment size before low : ℕ) (sections : List Section) → low ≤ before → InOrder file alignment size before sections → All (λ (section : Section). low ≤ section.at) sections
behind_all file alignment size before low [] h order = All-nil (λ (section : Section). low ≤ section.at)
behind_all file alignment size before low (section ∷ sections) h order =
    let one = order.0 in
    All-cons (λ (section : Section). low ≤ section.at) section sections (omega (arith, one.behind)) (behind_all file alignment size (section.at + section.len) low sections (omega (arith, one.behind)) order.1)

ascending : (file alignment size before : ℕ) (sections : List Section) → InOrder file alignment size before sections → AllPairs EndsBefore sections
ascending file alignment size before [] order = λ i j d _ h. absurd (omega arith)
ascending file alignment size before (section ∷ sections) order =
    AllPairs-cons EndsBefore section sections
    (behind_all file alignment size (section.at + section.len) (section.at + section.len) sections (omega arith) order.1)
    (ascending file alignment size (section.at + section.len) sections order.1)

copied_all : (file alignment size before : ℕ) (sections : List Section) → InOrder file alignment size before sections → All (λ (section : Section). (section.copied ≡ 0) ⊎ (section.raw + section.copied ≤ file)) sections
copied_all file alignment size before [] order = All-nil (λ (section : Section). (section.copied ≡ 0) ⊎ (section.raw + section.copied ≤ file))
copied_all file alignment size before (section ∷ sections) order =
    let one = order.0 in
    All-cons (λ (section : Section). (section.copied ≡ 0) ⊎ (section.raw + section.copied ≤ file)) section sections one.copied (copied_all file alignment size (section.at + section.len) sections order.1)

-- no more bytes are copied than a section has
copied_few : (bytes : List ℕ) (at count : ℕ) → All (λ (section : Section). section.copied ≤ section.len) (sections_at bytes at count)
unfolding sections_at section_at
copied_few bytes at zero = All-nil (λ (section : Section). section.copied ≤ section.len)
copied_few bytes at (suc count) =
    All-cons (λ (section : Section). section.copied ≤ section.len) (section_at bytes at) (sections_at bytes (at + 40) count) (omega arith) (copied_few bytes (at + 40) count)

length-sections_at : (bytes : List ℕ) (at count : ℕ) → length (sections_at bytes at count) ≡ count
unfolding sections_at
length-sections_at bytes at zero = refl
length-sections_at bytes at (suc count) = omega (arith, length-sections_at bytes (at + 40) count)

-- a section's place in an image
record Lies (alignment size low : ℕ) (section : Section) : Type 0 where
  aligned : section.at % alignment ≡ 0
  behind : low ≤ section.at
  end : section.at + section.len ≤ size

lie_all : (file alignment size before low : ℕ) (sections : List Section) → low ≤ before → InOrder file alignment size before sections → All (Lies alignment size low) sections
lie_all file alignment size before low [] h order = All-nil (Lies alignment size low)
lie_all file alignment size before low (section ∷ sections) h order =
    let one = order.0 in
    All-cons (Lies alignment size low) section sections
    (record { aligned = one.aligned; behind = omega (arith, one.behind); end = one.end })
    (lie_all file alignment size (section.at + section.len) low sections (omega (arith, one.behind)) order.1)

-- ---- the image

module _ (bytes : List ℕ) (image : Fields) (read : image_of bytes ≡ Ok image) where
  checked : (judged (field_checks bytes) (image_at bytes) ≡ Ok (image_at bytes)) × (judged (value_checks bytes (image_at bytes)) (image_at bytes) ≡ Ok image)
  unfolding image_of
  checked = both_pass (field_checks bytes) (value_checks bytes (image_at bytes)) (image_at bytes) image read

  image_is : image ≡ image_at bytes
  image_is = judged_value (value_checks bytes (image_at bytes)) (image_at bytes) image checked.1

  pub values_checked : judged (value_checks bytes image) image ≡ Ok image
  values_checked = rw (← image_is) at checked.1

  header_part : (judged (header_checks (length bytes) (optional_size bytes) (directory_count bytes) (section_count bytes) image) image ≡ Ok image) × (judged (section_checks (length bytes) image.alignment image.size image.headers 0 image.sections ++ end_checks image) image ≡ Ok image)
  unfolding value_checks
  header_part = both_pass (header_checks (length bytes) (optional_size bytes) (directory_count bytes) (section_count bytes) image) (section_checks (length bytes) image.alignment image.size image.headers 0 image.sections ++ end_checks image) image image values_checked

  section_part : (judged (section_checks (length bytes) image.alignment image.size image.headers 0 image.sections) image ≡ Ok image) × (judged (end_checks image) image ≡ Ok image)
  section_part = both_pass (section_checks (length bytes) image.alignment image.size image.headers 0 image.sections) (end_checks image) image image header_part.1

  pub sections_in_order : InOrder (length bytes) image.alignment image.size image.headers image.sections
  sections_in_order = in_order (length bytes) image.alignment image.size image.headers 0 image.sections image image section_part.0

  sections_are : image.sections ≡ sections_at bytes (table_at bytes) (section_count bytes)
  unfolding image_at
  sections_are = ap (λ (fields : Fields). fields.sections) image_is

-- what the checks of the headers say
record HasHeaders (file sections : ℕ) (image : Fields) : Type 0 where
  fits : image.headers ≤ file
  inside : image.headers ≤ image.size
  subsystem : is_subsystem image.subsystem ≡ true
  alignment : is_alignment image.alignment ≡ true
  base : image.image_base % 4096 ≡ 0
  not_empty : 0 < image.size
  small : image.size ≤ 0x800000
  few : sections ≤ 96

has_headers : (file optional_bytes directories sections : ℕ) (image x y : Fields) → judged (header_checks file optional_bytes directories sections image) x ≡ Ok y → HasHeaders file sections image
has_headers file optional_bytes directories sections image x y h =
    let sizes = nat_le (112 + 8 * directories) optional_bytes && (nat_le image.headers file && nat_le image.headers image.size) in
    let three = check (is_size image.size && nat_le sections 96) faults.TooLarge ∷ [] in
    let two = check (is_alignment image.alignment && image.image_base % 4096 == 0) faults.Alignment ∷ three in
    let one = check (is_subsystem image.subsystem) faults.Subsystem ∷ two in
    let first = first_passes (check sizes faults.Header) one x y h in
    let second = first_passes (check (is_subsystem image.subsystem) faults.Subsystem) two x y first.1 in
    let third = first_passes (check (is_alignment image.alignment && image.image_base % 4096 == 0) faults.Alignment) three x y second.1 in
    let fourth = first_passes (check (is_size image.size && nat_le sections 96) faults.TooLarge) [] x y third.1 in
    let lengths = both_true (nat_le (112 + 8 * directories) optional_bytes) (nat_le image.headers file && nat_le image.headers image.size) first.0 in
    let headers = both_true (nat_le image.headers file) (nat_le image.headers image.size) lengths.1 in
    let aligned = both_true (is_alignment image.alignment) (image.image_base % 4096 == 0) third.0 in
    let sized = both_true (is_size image.size) (nat_le sections 96) fourth.0 in
    let size = both_true (nat_le 1 image.size) (nat_le image.size 0x800000) sized.0 in
    let low : nat_le 1 image.size ≡ true = size.0 in
    let high : nat_le image.size 0x800000 ≡ true = size.1 in
    let at_file : nat_le image.headers file ≡ true = headers.0 in
    let at_size : nat_le image.headers image.size ≡ true = headers.1 in
    let based : (image.image_base % 4096 == 0) ≡ true = aligned.1 in
    let counted : nat_le sections 96 ≡ true = sized.1 in
    record {
      fits = leb-true image.headers file at_file;
      inside = leb-true image.headers image.size at_size;
      subsystem = second.0;
      alignment = aligned.0;
      base = grind (arith, nat_tests);
      not_empty = omega (arith, leb-true 1 image.size low);
      small = leb-true image.size 0x800000 high;
      few = leb-true sections 96 counted;
    }

-- what the last checks say
record HasEnds (image : Fields) : Type 0 where
  entry : (0 < image.entry) × (image.entry % 2 ≡ 0) × (image.entry < image.size)
  relocations : (image.reloc_len ≡ 0) ⊎ (image.reloc_at + image.reloc_len ≤ image.size)

has_ends : (image x y : Fields) → judged (end_checks image) x ≡ Ok y → HasEnds image
has_ends image x y h =
    let last = check (image.reloc_len == 0 || nat_le (image.reloc_at + image.reloc_len) image.size) faults.Directory ∷ [] in
    let first = first_passes (check (nat_le 1 image.entry && (image.entry % 2 == 0 && nat_lt image.entry image.size)) faults.EntryOutside) last x y h in
    let second = first_passes (check (image.reloc_len == 0 || nat_le (image.reloc_at + image.reloc_len) image.size) faults.Directory) [] x y first.1 in
    let entry = both_true (nat_le 1 image.entry) (image.entry % 2 == 0 && nat_lt image.entry image.size) first.0 in
    let inner = both_true (image.entry % 2 == 0) (nat_lt image.entry image.size) entry.1 in
    let even : (image.entry % 2 == 0) ≡ true = inner.0 in
    record {
      entry = (omega (arith, leb-true 1 image.entry entry.0), grind (arith, nat_tests), ltb-true image.entry image.size inner.1);
      relocations = copied_fact image.reloc_len (image.reloc_at + image.reloc_len) image.size second.0;
    }

module _ (bytes : List ℕ) (image : Fields) (read : image_of bytes ≡ Ok image) where
  the_headers : HasHeaders (length bytes) (section_count bytes) image
  the_headers = has_headers (length bytes) (optional_size bytes) (directory_count bytes) (section_count bytes) image image image (header_part bytes image read).0

  the_ends : HasEnds image
  the_ends = has_ends image image image (section_part bytes image read).1

  the_order : InOrder (length bytes) image.alignment image.size image.headers image.sections
  the_order = sections_in_order bytes image read

  the_places : All (Lies image.alignment image.size image.headers) image.sections
  the_places = lie_all (length bytes) image.alignment image.size image.headers image.headers image.sections (omega arith) the_order

  the_copies : All (λ (section : Section). section.copied ≤ section.len) image.sections
  the_copies = rw (sections_are bytes image read) (copied_few bytes (table_at bytes) (section_count bytes))

  pub is_image : IsImage image
  is_image =
      let headers = the_headers in
      let ends = the_ends in
      let count : length image.sections ≡ section_count bytes = ap length (sections_are bytes image read) ∙ length-sections_at bytes (table_at bytes) (section_count bytes) in
      record {
        subsystem = headers.subsystem;
        alignment = headers.alignment;
        base = headers.base;
        not_empty = headers.not_empty;
        small = headers.small;
        headers = headers.inside;
        few = omega (arith, headers.few);
        inside = λ k d h. let place = the_places k d h in record { aligned = place.aligned; behind = place.behind; end = place.end; copied = the_copies k d h };
        ascending = ascending (length bytes) image.alignment image.size image.headers image.sections the_order;
        entry = ends.entry;
        relocations = ends.relocations;
      }

  pub is_copied : IsCopiedFrom (length bytes) image
  is_copied = record {
    headers = (the_headers).fits;
    sections = copied_all (length bytes) image.alignment image.size image.headers image.sections the_order;
  }
