-- What holds of each image that is read.
use Rattle.std.specs.Prelude.{◌≡◌, ◌≤◌, ◌<◌, ◌⊎◌, ℕ, ◌+◌, ◌%◌, length, true, All}
use Rattle.std.specs.List.{AllPairs}
use Rattle.pe_image.specs.declared.image.Section.{Section}
use Rattle.pe_image.specs.ImageOf.{Fields, is_subsystem, is_alignment}

-- The section begins at a multiple of the alignment and behind the headers, and ends in the image.
pub record IsInImage (image : Fields) (section : Section) : Type 0 where
  pub aligned : section.at % image.alignment ≡ 0
  pub behind : image.headers ≤ section.at
  pub end : section.at + section.len ≤ image.size
  pub copied : section.copied ≤ section.len

-- One section ends where the other begins or before it.
abbrev pub EndsBefore : Section → Section → Type 0
EndsBefore first second = first.at + first.len ≤ second.at

pub record IsImage (image : Fields) : Type 0 where
  pub subsystem : is_subsystem image.subsystem ≡ true
  pub alignment : is_alignment image.alignment ≡ true
  pub base : image.image_base % 4096 ≡ 0
  pub not_empty : 0 < image.size
  pub small : image.size ≤ 0x800000
  pub headers : image.headers ≤ image.size
  pub few : length image.sections ≤ 96
  pub inside : All (IsInImage image) image.sections
  pub ascending : AllPairs EndsBefore image.sections
  pub entry : (0 < image.entry) × (image.entry % 2 ≡ 0) × (image.entry < image.size)
  pub relocations : (image.reloc_len ≡ 0) ⊎ (image.reloc_at + image.reloc_len ≤ image.size)

-- What is copied lies in a file of so many bytes.
pub record IsCopiedFrom (file : ℕ) (image : Fields) : Type 0 where
  pub headers : image.headers ≤ file
  pub sections : All (λ (section : Section). (section.copied ≡ 0) ⊎ (section.raw + section.copied ≤ file)) image.sections
