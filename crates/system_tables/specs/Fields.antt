-- Numbers in the bytes of a page, the least byte first, and the CRC of a table: UEFI 2.10, 4.2.
use Rattle.std.specs.Prelude.{ℕ, zero, suc, ◌+◌, ◌*◌, ◌&&◌, nat_le, Bool, true, List, [], ◌∷◌, take, drop}
use Rattle.uh_base.specs.Bytes.{plus}
use Rattle.uh_base.specs.LittleEndian.{low_bytes}
use Rattle.uh_base.specs.Crc.{crc_of}
use Rattle.guest_memory.specs.Lists.{written_over}
use Rattle.system_tables.specs.declared.fields.Field.{Field}

-- a field of so many bytes
abbrev pub pointer : ℕ → ℕ → Field
pointer offset value = record { offset = offset; width = 8; value = value }

abbrev pub word : ℕ → ℕ → Field
word offset value = record { offset = offset; width = 4; value = value }

abbrev pub half : ℕ → ℕ → Field
half offset value = record { offset = offset; width = 2; value = value }

abbrev pub byte : ℕ → ℕ → Field
byte offset value = record { offset = offset; width = 1; value = value }

-- whether a field has a width, and lies in a page
abbrev pub fits : Field → Bool
fits field = nat_le 1 field.width && (nat_le field.width 8 && nat_le (field.offset + field.width) 4096)

unfoldable pub all_fit : List Field → Bool
all_fit [] = true
all_fit (field ∷ fields) = fits field && all_fit fields

-- the bytes with fields written over them
unfoldable pub with_field : List ℕ → Field → List ℕ
with_field bytes field = written_over bytes field.offset (low_bytes field.width field.value)

unfoldable pub with_fields : List ℕ → List Field → List ℕ
with_fields bytes [] = bytes
with_fields bytes (field ∷ fields) = with_fields (with_field bytes field) fields

-- pointers to so many slots of 16 bytes each, from one slot on
unfoldable pub slot_pointers : ℕ → ℕ → ℕ → ℕ → List Field
slot_pointers at slots first zero = []
slot_pointers at slots first (suc count) = pointer at (plus slots (16 * first)) ∷ slot_pointers (at + 8) slots (first + 1) count

-- the bytes with the CRC of a table of so many bytes in its header: that of the table with 0 in the place of the CRC
abbrev pub crc_field : ℕ → ℕ → Field
crc_field at crc = word (at + 16) crc

unfoldable pub with_crc : List ℕ → ℕ → ℕ → List ℕ
with_crc bytes at size =
    let zeroed = with_field bytes (crc_field at 0) in
    with_field zeroed (crc_field at (crc_of (take size (drop at zeroed))))
