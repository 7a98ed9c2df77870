-- An image's bytes where it lies, and the rights to its pages.
use Rattle.std.specs.Prelude.{ℕ, zero, suc, ◌≤◌, ◌+◌, ◌-◌, ◌/◌, ◌%◌, ◌^◌, ◌==◌, nat_lt, Bool, true, false, List, [], ◌∷◌, length, map, Option, Some, None, Result, Ok, Err, if◌then◌else◌}
use Rattle.guest_memory.specs.Pages.{Pages, all_rights}
use Rattle.guest_memory.specs.Changes.{with_rights}
use Rattle.guest_memory.specs.declared.rights.Rights.{Rights}
use Rattle.pe_image.specs.declared.image.Section.{Section}
use Rattle.pe_image.specs.ImageOf.{Fields}
use Rattle.pe_image.specs.Placed.{in_pages, placed_byte}
use Rattle.base_reloc.specs.declared.fault.RelocFault.TheVariants as relocs
use Rattle.base_reloc.specs.declared.site.Site.{Site}
use Rattle.base_reloc.specs.Moved.{moved_byte, word_at, first_leaving}
use Rattle.image_services.specs.declared.refusal.LoadRefusal.{LoadRefusal}
use Rattle.image_services.specs.declared.refusal.LoadRefusal.TheVariants as refusals

-- the values of a function at the first so many numbers from one on
unfoldable pub values_from : (ℕ → ℕ) → ℕ → ℕ → List ℕ
values_from f at zero = []
values_from f at (suc n) = f at ∷ values_from f (at + 1) n

-- the bytes of a placed image, in whole pages
abbrev pub placed : Fields → List ℕ → List ℕ
placed image file = values_from (placed_byte image file) 0 (in_pages image.size)

abbrev pub page_count : Fields → ℕ
page_count image = in_pages image.size / 4096

-- the displacement of what moves from one address to another, modulo 2^64
abbrev pub displacement : ℕ → ℕ → ℕ
displacement from to = (to + (2 ^ 64 - from)) % 2 ^ 64

-- the bytes of an image with its sites moved, or the first site whose word leaves its range
abbrev pub moved_by : Option ℕ → List ℕ → List Site → ℕ → Result (List ℕ) LoadRefusal
moved_by None bytes sites by = Ok (values_from (moved_byte bytes sites by) 0 (length bytes))
moved_by (Some site) bytes sites by = Err (refusals.Reloc (relocs.Range32 site))

abbrev pub moved : List ℕ → List Site → ℕ → Result (List ℕ) LoadRefusal
moved bytes sites by = moved_by (first_leaving bytes by 0 sites) bytes sites by

-- The words of sites, as they stand in bytes.
unfoldable pub words_of : List ℕ → List Site → List ℕ
words_of bytes sites = map (λ (site : Site). word_at site.kind bytes site.at) sites

-- ---- rights

abbrev pub has_bit : ℕ → ℕ → Bool
has_bit n bit = n / bit % 2 == 1

-- 1 is to read, 2 to write, 4 to execute
abbrev pub rights_in : ℕ → Rights
rights_in n = record { read = has_bit n 1; write = has_bit n 2; exec = has_bit n 4 }

abbrev pub readable : Rights
readable = record { read = true; write = false; exec = false }

-- the pages that a section meets have its rights
abbrev pub with_section_rights : Pages → ℕ → List Section → Pages
with_section_rights m first [] = m
with_section_rights m first (section ∷ sections) =
    with_section_rights (with_rights m (first + section.at / 4096) ((section.at + section.len + 4095) / 4096 - section.at / 4096) (rights_in section.rights)) first sections

-- The pages that a section meets are among so many, where its image begins at one of them.
abbrev pub MeetsIn : ℕ → ℕ → Section → Type 0
MeetsIn pages first section = first + (section.at + section.len + 4095) / 4096 ≤ pages

-- With an alignment of whole pages a section's pages have its rights and the others may be read; with a smaller one all
-- pages have all rights.
unfoldable pub with_image_rights : Pages → ℕ → Fields → Pages
with_image_rights m first image =
    if nat_lt image.alignment 4096 then with_rights m first (page_count image) all_rights
    else with_section_rights (with_rights m first (page_count image) readable) first image.sections
