-- The memory map in a guest's buffer (UEFI 2.10, section 7.2, EFI_MEMORY_DESCRIPTOR version 1).
use Rattle.std.specs.Prelude.{ℕ, ◌*◌, ◌++◌, List, length, drop, slice_range, ◌+◌, Result, Ok, Err, nat_le, if◌then◌else◌}
use Rattle.std.specs.Int.{w32, w64, to_le_bytes}
use Rattle.std.specs.List.{flat_map}
use Rattle.uh_base.specs.LittleEndian.{little_endian}
use Rattle.memory_map.specs.declared.descriptor.Descriptor.{Descriptor}
use Rattle.memory_map.specs.declared.descriptor.TooSmall.{TooSmall}

-- 40 bytes, the least of each number first: the type, 4 bytes of 0, the start, the virtual start, the
-- pages, the attribute
unfoldable pub bytes_of : Descriptor → List ℕ
bytes_of d =
    to_le_bytes w32 d.memory_type ++ to_le_bytes w32 0 ++ to_le_bytes w64 d.start ++ to_le_bytes w64 d.virt ++ to_le_bytes w64 d.pages ++ to_le_bytes w64 d.attribute

-- where the fields of a descriptor begin in its bytes, and how many bytes it has
abbrev pub type_at : ℕ
type_at = 0

abbrev pub start_at : ℕ
start_at = 8

abbrev pub virtual_start_at : ℕ
virtual_start_at = 16

abbrev pub pages_at : ℕ
pages_at = 24

abbrev pub attribute_at : ℕ
attribute_at = 32

abbrev pub descriptor_size : ℕ
descriptor_size = 40

-- so many bytes from an offset on as a number
abbrev pub field : List ℕ → ℕ → ℕ → ℕ
field bytes at width = little_endian (slice_range bytes at (at + width))

-- the descriptor that bytes make; those of no field don't matter
unfoldable pub descriptor_in : List ℕ → Descriptor
descriptor_in bytes =
    record {
      memory_type = field bytes type_at 4;
      start = field bytes start_at 8;
      virt = field bytes virtual_start_at 8;
      pages = field bytes pages_at 8;
      attribute = field bytes attribute_at 8;
    }

-- the descriptors one behind another
abbrev pub all_bytes : List Descriptor → List ℕ
all_bytes list = flat_map bytes_of list

-- how many bytes they have, or that there is less room
abbrev pub size_in : List Descriptor → ℕ → Result ℕ TooSmall
size_in list room = if nat_le (descriptor_size * length list) room then Ok (descriptor_size * length list) else Err (record { 0 = descriptor_size * length list })

-- the buffer behind that answer
abbrev pub written : Result ℕ TooSmall → List Descriptor → List ℕ → List ℕ
written (Ok size) list buffer = all_bytes list ++ drop size buffer
written (Err short) list buffer = buffer
