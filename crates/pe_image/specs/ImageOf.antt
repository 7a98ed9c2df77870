-- The PE32+ image that a file holds, or the first thing that is wrong with it. Each field is named by its
-- offset (PE/COFF, "MS-DOS Stub", "Signature", "COFF File Header", "Optional Header", "Section Table").
use Rattle.std.specs.Prelude.{ℕ, ◌+◌, ◌*◌, ◌/◌, ◌%◌, ◌^◌, min, zero, suc, List, [], ◌∷◌, ◌++◌, length, Bool, ◌&&◌, ◌||◌, ◌==◌, nat_le, nat_lt, Result, if◌then◌else◌}
use Rattle.std.specs.Int.{is_power_of_two}
use Rattle.pe_image.specs.declared.fault.PeFault.{PeFault}
use Rattle.pe_image.specs.declared.fault.PeFault.TheVariants as faults
use Rattle.pe_image.specs.declared.image.Image.{Image}
use Rattle.pe_image.specs.declared.image.Section.{Section}
use Rattle.pe_image.specs.Numbers.{u16_at, u32_at, u64_at}
use Rattle.pe_image.specs.Checks.{Check, check, is_there, judged}

-- an image, with its sections as a list
pub record Fields : Type 0 where
  pub subsystem : ℕ
  pub image_base : ℕ
  pub alignment : ℕ
  pub size : ℕ
  pub headers : ℕ
  pub entry : ℕ
  pub sections : List Section
  pub reloc_at : ℕ
  pub reloc_len : ℕ
  pub stripped : Bool

abbrev pub fields_of : Image → Fields
fields_of image = record {
  subsystem = image.subsystem;
  image_base = image.image_base;
  alignment = image.alignment;
  size = image.size;
  headers = image.headers;
  entry = image.entry;
  sections = image.sections.items;
  reloc_at = image.reloc_at;
  reloc_len = image.reloc_len;
  stripped = image.stripped;
}

-- ---- where the parts of the file lie

-- the signature, behind which come the COFF header, the optional header and the section headers
abbrev pub signature_at : List ℕ → ℕ
signature_at bytes = u32_at bytes 0x3c

abbrev pub coff_at : List ℕ → ℕ
coff_at bytes = signature_at bytes + 4

abbrev pub optional_at : List ℕ → ℕ
optional_at bytes = signature_at bytes + 24

-- how many section headers there are, and how many bytes the optional header has
abbrev pub section_count : List ℕ → ℕ
section_count bytes = u16_at bytes (coff_at bytes + 2)

abbrev pub optional_size : List ℕ → ℕ
optional_size bytes = u16_at bytes (coff_at bytes + 16)

abbrev pub table_at : List ℕ → ℕ
table_at bytes = optional_at bytes + optional_size bytes

-- the directories that are read, at most 16
abbrev pub directory_count : List ℕ → ℕ
directory_count bytes = min (u32_at bytes (optional_at bytes + 108)) 16

-- a number of directory 5, the base relocations, or 0 where there are fewer directories
abbrev pub of_relocations : List ℕ → ℕ → ℕ
of_relocations bytes offset = if nat_le 6 (directory_count bytes) then u32_at bytes (optional_at bytes + offset) else 0

-- ---- sections

abbrev pub bit : ℕ → ℕ → ℕ
bit n place = n / 2 ^ place % 2

-- 1 for a section that can be read, 2 for one that can be written, 4 for one that can be executed
abbrev pub rights_of : ℕ → ℕ
rights_of characteristics = bit characteristics 30 + 2 * bit characteristics 31 + 4 * bit characteristics 29

-- how long a section is in memory
abbrev pub length_of : ℕ → ℕ → ℕ
length_of virtual_size raw_size = if virtual_size == 0 then raw_size else virtual_size

-- the section whose header stands at an offset
unfoldable pub section_at : List ℕ → ℕ → Section
section_at bytes at =
    let len = length_of (u32_at bytes (at + 8)) (u32_at bytes (at + 16)) in record {
      at = u32_at bytes (at + 12);
      len = len;
      raw = u32_at bytes (at + 20);
      copied = min len (u32_at bytes (at + 16));
      rights = rights_of (u32_at bytes (at + 36));
    }

-- the sections of so many headers from an offset on
unfoldable pub sections_at : List ℕ → ℕ → ℕ → List Section
sections_at bytes at zero = []
sections_at bytes at (suc n) = section_at bytes at ∷ sections_at bytes (at + 40) n

-- ---- the checks, in their order

abbrev pub signature_checks : List ℕ → List Check
signature_checks bytes =
    is_there bytes 0 2 ∷ check (u16_at bytes 0 == 0x5a4d) faults.Magic
    ∷ is_there bytes 0x3c 4
    ∷ is_there bytes (signature_at bytes) 4 ∷ check (u32_at bytes (signature_at bytes) == 0x4550) faults.Magic ∷ []

-- Machine, NumberOfSections, TimeDateStamp, PointerToSymbolTable, NumberOfSymbols, SizeOfOptionalHeader and
-- Characteristics; the machine is a RISC-V of 64 bits
abbrev pub coff_checks : List ℕ → ℕ → List Check
coff_checks bytes at =
    is_there bytes at 2 ∷ is_there bytes (at + 2) 2 ∷ is_there bytes (at + 4) 4 ∷ is_there bytes (at + 8) 4
    ∷ is_there bytes (at + 12) 4 ∷ is_there bytes (at + 16) 2 ∷ is_there bytes (at + 18) 2
    ∷ check (u16_at bytes at == 0x5064) faults.Machine ∷ []

-- Magic; AddressOfEntryPoint, ImageBase, SectionAlignment, FileAlignment, SizeOfImage, SizeOfHeaders,
-- Subsystem and NumberOfRvaAndSizes
abbrev pub optional_checks : List ℕ → ℕ → List Check
optional_checks bytes at =
    is_there bytes at 2 ∷ check (u16_at bytes at == 0x20b) faults.Magic
    ∷ is_there bytes (at + 16) 4 ∷ is_there bytes (at + 24) 8 ∷ is_there bytes (at + 32) 4
    ∷ is_there bytes (at + 36) 4 ∷ is_there bytes (at + 56) 4 ∷ is_there bytes (at + 60) 4
    ∷ is_there bytes (at + 68) 2 ∷ is_there bytes (at + 108) 4 ∷ []

-- the address and the size of directory 5, where there are so many directories
abbrev pub directory_checks : List ℕ → ℕ → ℕ → List Check
directory_checks bytes at count = if nat_le 6 count then is_there bytes (at + 152) 4 ∷ is_there bytes (at + 156) 4 ∷ [] else []

-- Name, VirtualSize, VirtualAddress, SizeOfRawData, PointerToRawData, PointerToRelocations,
-- PointerToLinenumbers, NumberOfRelocations, NumberOfLinenumbers and Characteristics
abbrev pub section_header_checks : List ℕ → ℕ → List Check
section_header_checks bytes at =
    is_there bytes at 8 ∷ is_there bytes (at + 8) 4 ∷ is_there bytes (at + 12) 4 ∷ is_there bytes (at + 16) 4
    ∷ is_there bytes (at + 20) 4 ∷ is_there bytes (at + 24) 4 ∷ is_there bytes (at + 28) 4
    ∷ is_there bytes (at + 32) 2 ∷ is_there bytes (at + 34) 2 ∷ is_there bytes (at + 36) 4 ∷ []

-- so many section headers from an offset on
unfoldable pub table_checks : List ℕ → ℕ → ℕ → List Check
table_checks bytes at zero = []
table_checks bytes at (suc n) = section_header_checks bytes at ++ table_checks bytes (at + 40) n

abbrev pub is_subsystem : ℕ → Bool
is_subsystem n = nat_le 10 n && nat_le n 12

-- a power of two from 32 on
abbrev pub is_alignment : ℕ → Bool
is_alignment n = nat_le 32 n && is_power_of_two n

abbrev pub is_size : ℕ → Bool
is_size n = nat_le 1 n && nat_le n 0x800000

-- the numbers of the headers, for a file of so many bytes
abbrev pub header_checks : ℕ → ℕ → ℕ → ℕ → Fields → List Check
header_checks file optional_size directories sections image =
    check (nat_le (112 + 8 * directories) optional_size && (nat_le image.headers file && nat_le image.headers image.size)) faults.Header
    ∷ check (is_subsystem image.subsystem) faults.Subsystem
    ∷ check (is_alignment image.alignment && image.image_base % 4096 == 0) faults.Alignment
    ∷ check (is_size image.size && nat_le sections 96) faults.TooLarge ∷ []

-- A section begins at a multiple of the alignment and ends in the image, and its copied bytes lie in the file.
abbrev pub is_inside : ℕ → ℕ → ℕ → Section → Bool
is_inside file alignment size section =
    section.at % alignment == 0
    && (nat_le (section.at + section.len) size && (section.copied == 0 || nat_le (section.raw + section.copied) file))

-- sections numbered from i on, the first of which begins at an address or behind it
unfoldable pub section_checks : ℕ → ℕ → ℕ → ℕ → ℕ → List Section → List Check
section_checks file alignment size before i [] = []
section_checks file alignment size before i (section ∷ sections) =
    check (is_inside file alignment size section) (faults.SectionOutside i)
    ∷ check (nat_le before section.at) (faults.SectionOverlap i)
    ∷ section_checks file alignment size (section.at + section.len) (i + 1) sections

-- the entry point, and directory 5 where it isn't empty
abbrev pub end_checks : Fields → List Check
end_checks image =
    check (nat_le 1 image.entry && (image.entry % 2 == 0 && nat_lt image.entry image.size)) faults.EntryOutside
    ∷ check (image.reloc_len == 0 || nat_le (image.reloc_at + image.reloc_len) image.size) faults.Directory ∷ []

-- ---- the image

-- each field, by its offset
unfoldable pub image_at : List ℕ → Fields
image_at bytes = let at = optional_at bytes in record {
  subsystem = u16_at bytes (at + 68);
  image_base = u64_at bytes (at + 24);
  alignment = u32_at bytes (at + 32);
  size = u32_at bytes (at + 56);
  headers = u32_at bytes (at + 60);
  entry = u32_at bytes (at + 16);
  sections = sections_at bytes (table_at bytes) (section_count bytes);
  reloc_at = of_relocations bytes 152;
  reloc_len = of_relocations bytes 156;
  stripped = u16_at bytes (coff_at bytes + 18) % 2 == 1;
}

-- what has to be in the file, and then what has to hold of it
unfoldable pub field_checks : List ℕ → List Check
field_checks bytes =
    signature_checks bytes ++ (coff_checks bytes (coff_at bytes) ++ (optional_checks bytes (optional_at bytes)
    ++ (directory_checks bytes (optional_at bytes) (directory_count bytes) ++ table_checks bytes (table_at bytes) (section_count bytes))))

unfoldable pub value_checks : List ℕ → Fields → List Check
value_checks bytes image =
    header_checks (length bytes) (optional_size bytes) (directory_count bytes) (section_count bytes) image
    ++ (section_checks (length bytes) image.alignment image.size image.headers 0 image.sections ++ end_checks image)

-- the image, or the first fault
unfoldable pub image_of : List ℕ → Result Fields PeFault
image_of bytes = judged (field_checks bytes ++ value_checks bytes (image_at bytes)) (image_at bytes)
