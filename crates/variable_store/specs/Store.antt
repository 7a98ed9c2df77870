-- The store file, version 1: it keeps the variables that outlive a run. Numbers have their least byte first.
use Rattle.std.specs.Prelude.{ℕ, List, ◌++◌, length, codes}
use Rattle.std.specs.Int.{w16, w32, to_le_bytes}
use Rattle.std.specs.List.{filter, flat_map}
use Rattle.uh_base.specs.Guid.{bytes_of}
use Rattle.variable_store.specs.Entries.{Entry, is_non_volatile}

-- the variables that outlive a run
abbrev pub kept : List Entry → List Entry
kept entries = filter (λ entry. is_non_volatile entry.attributes) entries

-- two bytes for each unit of a name
abbrev pub unit_bytes : List ℕ → List ℕ
unit_bytes name = flat_map (to_le_bytes w16) name

-- a variable: the vendor, the attributes, the units of the name, the bytes of the data, the name, the data
unfoldable pub entry_bytes : Entry → List ℕ
entry_bytes entry =
    bytes_of entry.vendor ++ (to_le_bytes w32 entry.attributes ++ (to_le_bytes w32 (length entry.name) ++ (to_le_bytes w32 (length entry.data) ++ (unit_bytes entry.name ++ entry.data))))

-- four letters, how many variables there are, and these in order
unfoldable pub store_of : List Entry → List ℕ
store_of entries = codes "UVS1" ++ (to_le_bytes w32 (length (kept entries)) ++ flat_map entry_bytes (kept entries))
