-- A GUID by its fields, by its text, and by its sixteen bytes: UEFI 2.10, appendix A.
use Rattle.std.specs.Prelude.{ℕ, ◌<◌, ◌^◌, ◌==◌, ◌&&◌, Bool, List, ◌++◌, take, drop, Option, option_map}
use Rattle.std.specs.Int.{w16, w32, w64, from_le_bytes, from_be_bytes, to_be_bytes, to_le_bytes}
use Rattle.uuid.specs.Text.{parsed}
use Rattle.uh_base.specs.declared.guid.Guid.{Guid}

-- the fields of sixteen bytes in the order of a text
abbrev pub fields_of : List ℕ → Guid
fields_of bytes = record {
  d1 = from_be_bytes w32 (take 4 bytes);
  d2 = from_be_bytes w16 (take 2 (drop 4 bytes));
  d3 = from_be_bytes w16 (take 2 (drop 6 bytes));
  d4 = from_be_bytes w64 (drop 8 bytes);
}

-- what a text reads as
unfoldable pub read_of : List ℕ → Option Guid
read_of text = option_map fields_of (parsed text)

-- the sixteen bytes in memory: the first three fields with the least byte first, the rest in order
unfoldable pub bytes_of : Guid → List ℕ
bytes_of guid = to_le_bytes w32 guid.d1 ++ (to_le_bytes w16 guid.d2 ++ (to_le_bytes w16 guid.d3 ++ to_be_bytes w64 guid.d4))

-- the GUID of sixteen bytes in memory
unfoldable pub guid_of : List ℕ → Guid
guid_of bytes = record {
  d1 = from_le_bytes w32 (take 4 bytes);
  d2 = from_le_bytes w16 (take 2 (drop 4 bytes));
  d3 = from_le_bytes w16 (take 2 (drop 6 bytes));
  d4 = from_be_bytes w64 (drop 8 bytes);
}

-- the same GUID, by its fields
abbrev pub same_guid : Guid → Guid → Bool
same_guid a b = a.d1 == b.d1 && (a.d2 == b.d2 && (a.d3 == b.d3 && a.d4 == b.d4))

-- the fields fit their types
pub record IsGuid (guid : Guid) : Type 0 where
  pub d1 : guid.d1 < 2 ^ 32
  pub d2 : guid.d2 < 2 ^ 16
  pub d3 : guid.d3 < 2 ^ 16
  pub d4 : guid.d4 < 2 ^ 64
