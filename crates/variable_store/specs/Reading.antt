-- A store file read field by field: the variables, or the offset of the first field that isn't right.
use Rattle.std.specs.Prelude.{ℕ, zero, suc, ◌-◌, ◌*◌, ◌<◌, ◌≤◌, ◌≡◌, ◌==◌, ◌&&◌, not, nat_le, nat_lt, Bool, false, List, [], ◌∷◌, ◌++◌, length, take, drop, codes, is_some, Option, Some, None, Result, Ok, Err, if◌then◌else◌}
use Rattle.std.specs.Str.{bytes_eq}
use Rattle.std.specs.Int.{w16, w32, from_le_bytes}
use Rattle.uh_base.specs.declared.guid.Guid.{Guid}
use Rattle.uh_base.specs.Guid.{IsGuid, guid_of}
use Rattle.uh_base.specs.Answers.{◌>>=◌}
use Rattle.variable_store.specs.declared.reading.Header.{Header}
use Rattle.variable_store.specs.declared.fault.StoreFault.{StoreFault}
use Rattle.variable_store.specs.declared.fault.StoreFault.TheVariants.{At, Memory}
use Rattle.variable_store.specs.Entries.{Entry, is_non_volatile, cost_of, room_of, place_of}
use Rattle.variable_store.specs.Sets.{is_bad_name, lacks_boot_access}

-- where a file of so many bytes goes on, by the bytes that are left
abbrev pub offset : ℕ → List ℕ → ℕ
offset size rest = size - length rest

-- so many bytes, and those behind them
unfoldable pub field : ℕ → ℕ → List ℕ → Result (List ℕ × List ℕ) ℕ
field count size rest = if nat_lt (length rest) count then Err (offset size rest) else Ok (take count rest, drop count rest)

-- a number of four bytes
unfoldable pub number : ℕ → List ℕ → Result (ℕ × List ℕ) ℕ
number size rest = field 4 size rest >>= λ read. Ok (from_le_bytes w32 read.0, read.1)

-- the GUID of sixteen bytes
unfoldable pub guid : ℕ → List ℕ → Result (Guid × List ℕ) ℕ
guid size rest = field 16 size rest >>= λ read. Ok (guid_of read.0, read.1)

-- the units of two bytes each
unfoldable pub units_in : List ℕ → List ℕ
units_in [] = []
units_in (low ∷ []) = []
units_in (low ∷ high ∷ rest) = from_le_bytes w16 (low ∷ high ∷ []) ∷ units_in rest

-- a test of the field at an offset
abbrev pub guard : Bool → ℕ → Result (Unit {0}) ℕ
guard test at = if test then Ok tt else Err at

-- attributes of a variable that outlives a run
abbrev pub fits_attributes : ℕ → Bool
fits_attributes attributes = is_non_volatile attributes && nat_lt attributes 8 && not (lacks_boot_access attributes)

-- data that is there, and fits in the room that is left
abbrev pub fits_size : ℕ → ℕ → ℕ → Bool
fits_size units size room = not (size == 0) && nat_le (cost_of units size) room

-- what stands before the name of a variable
unfoldable pub head : ℕ → List ℕ → ℕ → Result (Header × List ℕ) ℕ
head size rest room = do
  vendor ← guid size rest
  attributes ← number size vendor.1
  _ ← guard (fits_attributes attributes.0) (offset size vendor.1)
  units ← number size attributes.1
  _ ← guard (not (is_bad_name units.0)) (offset size attributes.1)
  bytes ← number size units.1
  _ ← guard (fits_size units.0 bytes.0 room) (offset size units.1)
  Ok (record { vendor = vendor.0; attributes = attributes.0; units = units.0; size = bytes.0 }, bytes.1)

-- A variable behind others: its name of this vendor isn't among them.
unfoldable pub entry : ℕ → List ℕ → List Entry → Result (Entry × List ℕ) ℕ
entry size rest before = do
  first ← head size rest (room_of before)
  name ← field (2 * first.0.units) size first.1
  _ ← guard (not (is_some (place_of before (units_in name.0) first.0.vendor false))) (offset size first.1)
  bytes ← field first.0.size size name.1
  Ok (record { vendor = first.0.vendor; name = units_in name.0; attributes = first.0.attributes; «data» = bytes.0 }, bytes.1)

-- so many variables behind others, and nothing behind them
unfoldable pub entries : ℕ → ℕ → List ℕ → List Entry → Result (List Entry) ℕ
entries zero size rest before = if length rest == 0 then Ok before else Err (offset size rest)
entries (suc count) size rest before = entry size rest before >>= λ read. entries count size read.1 (before ++ read.0 ∷ [])

-- the variables of a file
unfoldable pub store_in : List ℕ → Result (List Entry) ℕ
store_in bytes = do
  magic ← field 4 (length bytes) bytes
  _ ← guard (bytes_eq magic.0 (codes "UVS1")) 0
  count ← number (length bytes) magic.1
  entries count.0 (length bytes) count.1 []

-- a fault as reading names it: an offset, and none for want of memory
abbrev pub named : StoreFault → Option ℕ
named (At at) = Some at
named Memory = None

-- what is so of a header
pub record IsHeader (head : Header) (room : ℕ) : Type 0 where
  pub vendor : IsGuid head.vendor
  pub attributes : head.attributes < 8
  pub access : lacks_boot_access head.attributes ≡ false
  pub name : is_bad_name head.units ≡ false
  pub some : 0 < head.size
  pub within : cost_of head.units head.size ≤ room
