-- The checks of the headers, one header after another.
use Rattle.std.proofs.Common.{◌≡◌, ℕ, ◌+◌, List, ◌++◌, Ok, Err, refl, ◌∙◌}
use Rattle.pe_image.specs.declared.fault.PeFault.{PeFault}
use Rattle.pe_image.specs.declared.headers.Coff.{Coff}
use Rattle.pe_image.specs.declared.headers.Optional.{Optional}
use Rattle.pe_image.specs.declared.headers.Directory.{Directory}
use Rattle.pe_image.specs.Checks.{Check, judged}
use Rattle.pe_image.specs.ImageOf.{signature_at, coff_at, optional_at, table_at, section_count, directory_count, signature_checks, coff_checks, optional_checks, directory_checks, table_checks, field_checks}
use Rattle.pe_image.specs.Parts.{coff_of, optional_of, directory_of, headers_in}
use Rattle.pe_image.proofs.CheckLemmas.{passed, failed, all_pass, all_fail}
use Rattle.pe_image.proofs.SectionLemmas.{judged_value}

-- the checks from a header on
abbrev from_table : List ℕ → List Check
from_table bytes = table_checks bytes (table_at bytes) (section_count bytes)

abbrev from_directory : List ℕ → List Check
from_directory bytes = directory_checks bytes (optional_at bytes) (directory_count bytes) ++ from_table bytes

abbrev from_optional : List ℕ → List Check
from_optional bytes = optional_checks bytes (optional_at bytes) ++ from_directory bytes

abbrev from_coff : List ℕ → List Check
from_coff bytes = coff_checks bytes (coff_at bytes) ++ from_optional bytes

module _ {X : Type 0} (bytes : List ℕ) (x : X) (signature : ℕ) (signature_read : judged (signature_checks bytes) (signature_at bytes) ≡ Ok signature) where
  pub signature_is : signature ≡ signature_at bytes
  signature_is = judged_value (signature_checks bytes) (signature_at bytes) signature signature_read

  to_coff : judged (field_checks bytes) x ≡ judged (from_coff bytes) x
  unfolding field_checks
  to_coff = passed (signature_checks bytes) (from_coff bytes) x _ _ signature_read

  pub coff_fails : (fault : PeFault) → judged (coff_checks bytes (signature + 4)) (coff_of bytes (signature + 4)) ≡ Err fault → judged (field_checks bytes) x ≡ Err fault
  coff_fails fault h = to_coff ∙ failed (coff_checks bytes (coff_at bytes)) (from_optional bytes) x _ fault (rw signature_is at h)

module _ {X : Type 0} (bytes : List ℕ) (x : X) (signature : ℕ) (signature_read : judged (signature_checks bytes) (signature_at bytes) ≡ Ok signature) (coff : Coff) (coff_read : judged (coff_checks bytes (signature + 4)) (coff_of bytes (signature + 4)) ≡ Ok coff) where
  pub coff_is : coff ≡ coff_of bytes (coff_at bytes)
  coff_is = rw (signature_is bytes x signature signature_read) at (judged_value (coff_checks bytes (signature + 4)) (coff_of bytes (signature + 4)) coff coff_read)

  to_optional : judged (field_checks bytes) x ≡ judged (from_optional bytes) x
  to_optional = to_coff bytes x signature signature_read ∙ passed (coff_checks bytes (coff_at bytes)) (from_optional bytes) x _ coff (rw (signature_is bytes x signature signature_read) at coff_read)

  pub optional_fails : (fault : PeFault) → judged (optional_checks bytes (signature + 24)) (optional_of bytes (signature + 24)) ≡ Err fault → judged (field_checks bytes) x ≡ Err fault
  optional_fails fault h = to_optional ∙ failed (optional_checks bytes (optional_at bytes)) (from_directory bytes) x _ fault (rw (signature_is bytes x signature signature_read) at h)

module _ {X : Type 0} (bytes : List ℕ) (x : X) (signature : ℕ) (signature_read : judged (signature_checks bytes) (signature_at bytes) ≡ Ok signature) (coff : Coff) (coff_read : judged (coff_checks bytes (signature + 4)) (coff_of bytes (signature + 4)) ≡ Ok coff) (optional : Optional) (optional_read : judged (optional_checks bytes (signature + 24)) (optional_of bytes (signature + 24)) ≡ Ok optional) where
  pub optional_is : optional ≡ optional_of bytes (optional_at bytes)
  optional_is = rw (signature_is bytes x signature signature_read) at (judged_value (optional_checks bytes (signature + 24)) (optional_of bytes (signature + 24)) optional optional_read)

  to_directory : judged (field_checks bytes) x ≡ judged (from_directory bytes) x
  to_directory = to_optional bytes x signature signature_read coff coff_read ∙ passed (optional_checks bytes (optional_at bytes)) (from_directory bytes) x _ optional (rw (signature_is bytes x signature signature_read) at optional_read)

  pub directory_fails : (fault : PeFault) → judged (directory_checks bytes (signature + 24) optional.directories) (directory_of bytes (signature + 24) optional.directories) ≡ Err fault → judged (field_checks bytes) x ≡ Err fault
  directory_fails fault h = to_directory ∙ failed (directory_checks bytes (optional_at bytes) (directory_count bytes)) (from_table bytes) x _ fault (rw (optional_is, signature_is bytes x signature signature_read) at h)

module _ {X : Type 0} (bytes : List ℕ) (x : X) (signature : ℕ) (signature_read : judged (signature_checks bytes) (signature_at bytes) ≡ Ok signature) (coff : Coff) (coff_read : judged (coff_checks bytes (signature + 4)) (coff_of bytes (signature + 4)) ≡ Ok coff) (optional : Optional) (optional_read : judged (optional_checks bytes (signature + 24)) (optional_of bytes (signature + 24)) ≡ Ok optional) (relocations : Directory) (directory_read : judged (directory_checks bytes (signature + 24) optional.directories) (directory_of bytes (signature + 24) optional.directories) ≡ Ok relocations) where
  is_signature : signature ≡ signature_at bytes
  is_signature = signature_is bytes x signature signature_read

  is_optional : optional ≡ optional_of bytes (optional_at bytes)
  is_optional = optional_is bytes x signature signature_read coff coff_read optional optional_read

  is_coff : coff ≡ coff_of bytes (coff_at bytes)
  is_coff = coff_is bytes x signature signature_read coff coff_read

  pub relocations_is : relocations ≡ directory_of bytes (optional_at bytes) (directory_count bytes)
  relocations_is = rw (is_optional, is_signature) at (judged_value (directory_checks bytes (signature + 24) optional.directories) (directory_of bytes (signature + 24) optional.directories) relocations directory_read)

  to_table : judged (field_checks bytes) x ≡ judged (from_table bytes) x
  to_table = to_directory bytes x signature signature_read coff coff_read optional optional_read ∙ passed (directory_checks bytes (optional_at bytes) (directory_count bytes)) (from_table bytes) x _ relocations (rw (is_optional, is_signature) at directory_read)

  pub table_fails : {Y : Type 0} (y : Y) (fault : PeFault) → judged (table_checks bytes (signature + 24 + coff.optional_size) coff.sections) y ≡ Err fault → judged (field_checks bytes) x ≡ Err fault
  table_fails y fault h = to_table ∙ all_fail (from_table bytes) x y fault (rw (is_coff, is_signature) at h)

  pub headers_read : {Y : Type 0} (y z : Y) → judged (table_checks bytes (signature + 24 + coff.optional_size) coff.sections) y ≡ Ok z → judged (field_checks bytes) x ≡ Ok x
  headers_read y z h = to_table ∙ all_pass (from_table bytes) x y z (rw (is_coff, is_signature) at h)

  pub headers_are : record { optional_size = coff.optional_size; sections = coff.sections; stripped = coff.stripped; optional = optional; relocations = relocations; table = signature + 24 + coff.optional_size } ≡ headers_in bytes
  headers_are = rw (relocations_is, is_optional, is_coff, is_signature) refl
