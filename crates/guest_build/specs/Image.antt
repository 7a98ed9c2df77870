-- The file of an image (PE/COFF, "Signature (Image Only)" to "Section Table").
use Rattle.std.specs.Prelude.{ℕ, ◌+◌, ◌-◌, ◌==◌, List, [], ◌++◌, length, replicate, codes, if◌then◌else◌}
use Rattle.uh_base.specs.LittleEndian.{low_bytes}
use Rattle.guest_build.specs.Places.{sum, round_up, file_alignment, section_count, base_in, subsystem_in}
use Rattle.guest_build.specs.Layout.{Sections, Layout, layout_of, has_sites}

abbrev pub zeros : ℕ → List ℕ
zeros n = replicate n 0

-- bytes, and zeros behind them up to a size
abbrev pub padded : ℕ → List ℕ → List ℕ
padded size bytes = bytes ++ zeros (size - length bytes)

-- `MZ`, and where the signature stands
unfoldable pub dos_header : List ℕ
dos_header = low_bytes 2 0x5a4d ++ zeros 58 ++ low_bytes 4 0x40

-- the signature; Machine, NumberOfSections and SizeOfOptionalHeader
unfoldable pub coff_header : ℕ → List ℕ
coff_header sections =
    low_bytes 4 0x4550 ++ low_bytes 2 0x5064 ++ low_bytes 2 sections ++ zeros 12 ++ low_bytes 2 240 ++ low_bytes 2 0

-- Magic, AddressOfEntryPoint, ImageBase, SectionAlignment and FileAlignment
unfoldable pub standard_fields : (entry base alignment : ℕ) → List ℕ
standard_fields entry base alignment =
    low_bytes 2 0x20b ++ zeros 14 ++ low_bytes 4 entry ++ zeros 4 ++ low_bytes 8 base ++ low_bytes 4 alignment ++ low_bytes 4 (file_alignment alignment)

-- SizeOfImage, SizeOfHeaders, Subsystem and NumberOfRvaAndSizes
unfoldable pub windows_fields : (size headers subsystem : ℕ) → List ℕ
windows_fields size headers subsystem =
    zeros 16 ++ low_bytes 4 size ++ low_bytes 4 headers ++ zeros 4 ++ low_bytes 2 subsystem ++ zeros 38 ++ low_bytes 4 16

-- 16 directories, of which number 5 has the base relocations
unfoldable pub directories : (at size : ℕ) → List ℕ
directories at size = zeros 40 ++ low_bytes 4 at ++ low_bytes 4 size ++ zeros 80

-- Name, VirtualSize, VirtualAddress, SizeOfRawData, PointerToRawData and Characteristics
unfoldable pub section_header : (name : List ℕ) (size at raw_size raw characteristics : ℕ) → List ℕ
section_header name size at raw_size raw characteristics =
    padded 8 name ++ low_bytes 4 size ++ low_bytes 4 at ++ low_bytes 4 raw_size ++ low_bytes 4 raw ++ zeros 12 ++ low_bytes 4 characteristics

-- a section header where the section isn't empty
unfoldable pub section_header_if : (name : List ℕ) (size at raw_size raw characteristics : ℕ) → List ℕ
section_header_if name size at raw_size raw characteristics =
    if size == 0 then [] else section_header name size at raw_size raw characteristics

-- IMAGE_SCN_MEM_EXECUTE, IMAGE_SCN_MEM_READ and IMAGE_SCN_MEM_WRITE
abbrev pub execute : ℕ
execute = 0x20000000

abbrev pub read : ℕ
read = 0x40000000

abbrev pub write : ℕ
write = 0x80000000

-- how many bytes a section has in the file
abbrev pub raw_size : Layout → List ℕ → ℕ
raw_size layout bytes = round_up (file_alignment layout.alignment) (length bytes)

abbrev pub data_raw : Layout → Sections → ℕ
data_raw layout all = sum layout.headers (raw_size layout all.in_text.bytes)

abbrev pub reloc_raw : Layout → Sections → ℕ
reloc_raw layout all = sum (data_raw layout all) (raw_size layout all.in_data.bytes)

-- .text, .data and .reloc, in this order
unfoldable pub section_table : Layout → Sections → List ℕ
section_table layout all =
    section_header (codes ".text") (length all.in_text.bytes) layout.text_from (raw_size layout all.in_text.bytes) layout.headers (read + execute)
    ++ section_header_if (codes ".data") (length all.in_data.bytes) layout.data_from (raw_size layout all.in_data.bytes) (data_raw layout all) (read + write)
    ++ section_header_if (codes ".reloc") (length layout.table) layout.reloc_from (raw_size layout layout.table) (reloc_raw layout all) read

-- the base relocations, which are nowhere where there are none
abbrev pub directory_at : Layout → ℕ
directory_at layout = if length layout.table == 0 then 0 else layout.reloc_from

unfoldable pub headers_of : (entry : ℕ) → Layout → Sections → List ℕ
headers_of entry layout all =
    dos_header
    ++ coff_header (section_count (length all.in_data.bytes) (has_sites all))
    ++ standard_fields entry (base_in all.settings) layout.alignment
    ++ windows_fields layout.size layout.headers (subsystem_in all.settings)
    ++ directories (directory_at layout) (length layout.table)
    ++ section_table layout all

abbrev pub raw_bytes : Layout → List ℕ → List ℕ
raw_bytes layout bytes = padded (raw_size layout bytes) bytes

unfoldable pub file_of : (entry : ℕ) → Layout → Sections → List ℕ
file_of entry layout all =
    padded layout.headers (headers_of entry layout all)
    ++ raw_bytes layout all.in_text.bytes
    ++ raw_bytes layout all.in_data.bytes
    ++ raw_bytes layout layout.table

-- the file of an image with an entry point
unfoldable pub image_of : (entry : ℕ) → Sections → List ℕ
image_of entry all = file_of entry (layout_of all) all
