-- What is so of the tables.
use Rattle.std.specs.Prelude.{ℕ, ◌≡◌, ◌+◌, ◌^◌, ◌<◌, ◌≤◌, ◌&&◌, ◌||◌, nat_le, nat_lt, Bool, true, false, List, [], ◌∷◌, length, take, drop, slice_get, slice_index, Some}
use Rattle.page_alloc.specs.declared.layout.Layout.{Layout}
use Rattle.uh_base.specs.LittleEndian.{low_bytes, little_endian}
use Rattle.uh_base.specs.Crc.{crc_of}
use Rattle.system_tables.specs.declared.fields.Field.{Field}
use Rattle.system_tables.specs.Fields.{all_fit, with_field, with_fields, with_crc, crc_field}
use Rattle.system_tables.specs.Tables.{system_table, runtime_table, vendor_text, boot_table, console, mode, system_page, boot_page, boot_cleared, moved}

-- fields from one offset to another, in order, none over another
unfoldable pub in_order : ℕ → ℕ → List Field → Bool
in_order from end [] = nat_le from end
in_order from end (field ∷ fields) = nat_le from field.offset && in_order (field.offset + field.width) end fields

-- no field is over the CRC of the table at an offset
unfoldable pub spare_crc : ℕ → List Field → Bool
spare_crc at [] = true
spare_crc at (field ∷ fields) = (nat_le (field.offset + field.width) (at + 16) || nat_le (at + 20) field.offset) && spare_crc at fields

-- a table with a header
pub record IsTable (at size : ℕ) (fields : List Field) : Type 0 where
  pub in_order : in_order at (at + size) fields ≡ true
  pub spare_crc : spare_crc at fields ≡ true

pub record AreApart (layout : Layout) : Type 0 where
  pub system : IsTable 0 120 (system_table layout)
  pub runtime : IsTable 0x100 136 (runtime_table layout.slots)
  pub vendor : in_order 0x200 0x212 vendor_text ≡ true
  pub boot : IsTable 0 376 (boot_table layout.slots)
  pub console : in_order 0x200 0x250 (console layout) ≡ true
  pub mode : in_order 0x300 0x318 mode ≡ true

abbrev pub TablesAreApart : Type 0
TablesAreApart = (layout : Layout) → AreApart layout

-- the CRC field of the table of so many bytes at an offset of a page holds the CRC of the table with 0 in its place
abbrev pub HasCrc : ℕ → ℕ → List ℕ → Type 0
HasCrc at size page = take 4 (drop (at + 16) page) ≡ low_bytes 4 (crc_of (take size (drop at (with_field page (crc_field at 0)))))

pub record HaveCrcs (layout : Layout) : Type 0 where
  pub system : HasCrc 0 120 (system_page layout)
  pub runtime : HasCrc 0x100 136 (system_page layout)
  pub boot : HasCrc 0 376 (boot_page layout)

abbrev pub CrcsAreRight : Type 0
CrcsAreRight = (layout : Layout) → HaveCrcs layout

-- a field holds its number
abbrev pub HasField : List ℕ → Field → Type 0
HasField page field = take field.width (drop field.offset page) ≡ low_bytes field.width field.value

-- the number that so many bytes of a page make
abbrev pub number_in_page : List ℕ → ℕ → ℕ → ℕ
number_in_page page offset width = little_endian (take width (drop offset page))

-- whether a byte of a page is one of a field's, or of a list's
abbrev pub is_in : Field → ℕ → Bool
is_in field i = nat_le field.offset i && nat_lt i (field.offset + field.width)

unfoldable pub is_in_some : List Field → ℕ → Bool
is_in_some [] i = false
is_in_some (field ∷ fields) i = is_in field i || is_in_some fields i

-- fields that are written in order are all there
abbrev pub FieldsReadBack : Type 0
FieldsReadBack = (page : List ℕ) (fields : List Field) (from end place : ℕ) (field : Field) → length page ≡ 4096 → all_fit fields ≡ true → in_order from end fields ≡ true
    → slice_get fields place ≡ Some field → HasField (with_fields page fields) field

-- a field that holds its number has it as its number
abbrev pub NumbersReadBack : Type 0
NumbersReadBack = (page : List ℕ) (field : Field) → field.value < 256 ^ field.width → HasField page field → number_in_page page field.offset field.width ≡ field.value

-- bytes of no field stay
abbrev pub OthersStay : Type 0
OthersStay = (page : List ℕ) (fields : List Field) (i : ℕ) → length page ≡ 4096 → all_fit fields ≡ true → is_in_some fields i ≡ false
    → slice_index (with_fields page fields) i ≡ slice_index page i

-- a new CRC changes no byte but its own
abbrev pub CrcsAreWrittenAlone : Type 0
CrcsAreWrittenAlone = (page : List ℕ) (at size i : ℕ) → length page ≡ 4096 → at + 24 ≤ 4096 → is_in (crc_field at 0) i ≡ false
    → slice_index (with_crc page at size) i ≡ slice_index page i

-- the CRCs after a change of a page that a guest may have written to
pub record CrcsAfter (page : List ℕ) : Type 0 where
  pub cleared : HasCrc 0 120 (boot_cleared page)
  pub runtime : HasCrc 0x100 136 page → HasCrc 0x100 136 (boot_cleared page)
  pub moved_system : (system slots : ℕ) → HasCrc 0 120 (moved system slots page)
  pub moved_runtime : (system slots : ℕ) → HasCrc 0x100 136 (moved system slots page)

abbrev pub CrcsStayRight : Type 0
CrcsStayRight = (page : List ℕ) → length page ≡ 4096 → CrcsAfter page
