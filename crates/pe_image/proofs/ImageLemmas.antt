-- The checks of an image, behind those of its fields.
use Rattle.std.proofs.Common.{◌≡◌, ℕ, List, ◌++◌, length, Ok, Err, refl, ap, ◌∙◌}
use Rattle.pe_image.specs.declared.fault.PeFault.{PeFault}
use Rattle.pe_image.specs.declared.fault.PeFault.TheVariants as faults
use Rattle.pe_image.specs.declared.headers.Headers.{Headers}
use Rattle.pe_image.specs.declared.image.Section.{Section}
use Rattle.pe_image.specs.Checks.{Check, judged, Stops}
use Rattle.pe_image.specs.ImageOf.{section_count, optional_size, directory_count, field_checks, value_checks, header_checks, section_checks, end_checks, sections_at, image_at, image_of}
use Rattle.pe_image.specs.Parts.{headers_in, headers_of, numbers_of}
use Rattle.pe_image.proofs.CheckLemmas.{passed, failed, all_pass, all_fail}
use Rattle.pe_image.proofs.SectionLemmas.{judged_value, stops}

-- what stops the first checks stops all
pub stops_first : {X Y : Type 0} (first bs : List Check) (x : X) (y : Y) (fault : PeFault) → Stops fault (judged first y) → Stops fault (judged (first ++ bs) x)
stops_first first bs x y faults.Memory h = tt
stops_first first bs x y fault h = failed first bs x y fault h

abbrev the_header_checks : List ℕ → List Check
the_header_checks bytes = header_checks (length bytes) (optional_size bytes) (directory_count bytes) (section_count bytes) (image_at bytes)

abbrev the_section_checks : List ℕ → List Check
the_section_checks bytes = let image = image_at bytes in section_checks (length bytes) image.alignment image.size image.headers 0 image.sections

module _ (bytes : List ℕ) (headers : Headers) (headers_read : judged (field_checks bytes) (headers_in bytes) ≡ Ok headers) where
  headers_is : headers ≡ headers_in bytes
  headers_is = judged_value (field_checks bytes) (headers_in bytes) headers headers_read

  to_values : image_of bytes ≡ judged (value_checks bytes (image_at bytes)) (image_at bytes)
  unfolding image_of
  to_values = passed (field_checks bytes) (value_checks bytes (image_at bytes)) (image_at bytes) _ headers headers_read

  pub headers_fail : {Y : Type 0} (y : Y) (fault : PeFault) → judged (header_checks (length bytes) headers.optional_size headers.optional.directories headers.sections (numbers_of headers.optional)) y ≡ Err fault → Stops fault (image_of bytes)
  unfolding value_checks image_at
  headers_fail y fault h = stops fault _ (to_values ∙ failed (the_header_checks bytes) (the_section_checks bytes ++ end_checks (image_at bytes)) (image_at bytes) y fault (rw headers_is at h))

module _ (bytes : List ℕ) (headers : Headers) (headers_read : judged (field_checks bytes) (headers_in bytes) ≡ Ok headers) {Y : Type 0} (y z : Y) (headers_pass : judged (header_checks (length bytes) headers.optional_size headers.optional.directories headers.sections (numbers_of headers.optional)) y ≡ Ok z) where
  to_sections : image_of bytes ≡ judged (the_section_checks bytes ++ end_checks (image_at bytes)) (image_at bytes)
  unfolding value_checks image_at
  to_sections = to_values bytes headers headers_read ∙ passed (the_header_checks bytes) (the_section_checks bytes ++ end_checks (image_at bytes)) (image_at bytes) y z (rw (headers_is bytes headers headers_read) at headers_pass)

  pub sections_fail : (fault : PeFault) → (let all = sections_at bytes headers.table headers.sections in Stops fault (judged (section_checks (length bytes) headers.optional.alignment headers.optional.size headers.optional.headers 0 all) all)) → Stops fault (image_of bytes)
  unfolding image_at
  sections_fail fault h = rw to_sections (stops_first (the_section_checks bytes) (end_checks (image_at bytes)) (image_at bytes) _ fault (rw (headers_is bytes headers headers_read) at h))

module _ (bytes : List ℕ) (headers : Headers) (headers_read : judged (field_checks bytes) (headers_in bytes) ≡ Ok headers) {Y : Type 0} (y z : Y) (headers_pass : judged (header_checks (length bytes) headers.optional_size headers.optional.directories headers.sections (numbers_of headers.optional)) y ≡ Ok z) (sections : List Section) (sections_pass : (let all = sections_at bytes headers.table headers.sections in judged (section_checks (length bytes) headers.optional.alignment headers.optional.size headers.optional.headers 0 all) all) ≡ Ok sections) where
  is_headers : headers ≡ headers_in bytes
  is_headers = headers_is bytes headers headers_read

  sections_are : sections ≡ sections_at bytes headers.table headers.sections
  sections_are = let all = sections_at bytes headers.table headers.sections in judged_value (section_checks (length bytes) headers.optional.alignment headers.optional.size headers.optional.headers 0 all) all sections sections_pass

  to_ends : image_of bytes ≡ judged (end_checks (image_at bytes)) (image_at bytes)
  unfolding image_at
  to_ends = to_sections bytes headers headers_read y z headers_pass ∙ passed (the_section_checks bytes) (end_checks (image_at bytes)) (image_at bytes) _ sections (rw is_headers at sections_pass)

  pub ends_fail : {W : Type 0} (w : W) (fault : PeFault) → judged (end_checks (headers_of headers.optional headers.relocations)) w ≡ Err fault → Stops fault (image_of bytes)
  unfolding image_at
  ends_fail w fault h = stops fault _ (to_ends ∙ all_fail (end_checks (image_at bytes)) (image_at bytes) w fault (rw is_headers at h))

  the_image : image_at bytes ≡ record {
    subsystem = headers.optional.subsystem;
    image_base = headers.optional.image_base;
    alignment = headers.optional.alignment;
    size = headers.optional.size;
    headers = headers.optional.headers;
    entry = headers.optional.entry;
    sections = sections;
    reloc_at = headers.relocations.at;
    reloc_len = headers.relocations.len;
    stripped = headers.stripped;
  }
  unfolding image_at
  the_image = rw (sections_are, is_headers) refl

  pub image_read : {W : Type 0} (w v : W) → judged (end_checks (headers_of headers.optional headers.relocations)) w ≡ Ok v → image_of bytes ≡ Ok (record {
    subsystem = headers.optional.subsystem;
    image_base = headers.optional.image_base;
    alignment = headers.optional.alignment;
    size = headers.optional.size;
    headers = headers.optional.headers;
    entry = headers.optional.entry;
    sections = sections;
    reloc_at = headers.relocations.at;
    reloc_len = headers.relocations.len;
    stripped = headers.stripped;
  })
  unfolding image_at
  image_read w v h = to_ends ∙ all_pass (end_checks (image_at bytes)) (image_at bytes) w v (rw is_headers at h) ∙ ap (λ image. Ok image) the_image
