-- Variables, in the order in which they were made (UEFI 2.10, section 8.2, Variable Services).
use Rattle.std.specs.Prelude.{ℕ, suc, ◌+◌, ◌-◌, ◌*◌, ◌==◌, ◌&&◌, ◌||◌, not, bit_and, sum_by, Bool, List, [], ◌∷◌, length, drop, Option, Some, None, option_map, Result, Ok, Err, if◌then◌else◌}
use Rattle.std.specs.Str.{bytes_eq}
use Rattle.uh_base.specs.declared.guid.Guid.{Guid}
pub use Rattle.uh_base.specs.Guid.{same_guid}
use Rattle.variable_store.specs.declared.refusal.VarRefusal.{VarRefusal}
use Rattle.variable_store.specs.declared.refusal.VarRefusal.TheVariants.{Invalid}

-- a variable: who owns its name, the units of the name, its attributes and its data
pub record Entry : Type 0 where
  pub vendor : Guid
  pub name : List ℕ
  pub attributes : ℕ
  pub «data» : List ℕ

-- EFI_VARIABLE_NON_VOLATILE: it outlives the run
abbrev pub is_non_volatile : ℕ → Bool
is_non_volatile attributes = not (bit_and attributes 1 == 0)

-- EFI_VARIABLE_RUNTIME_ACCESS: it is seen after the end of boot services
abbrev pub is_runtime : ℕ → Bool
is_runtime attributes = not (bit_and attributes 4 == 0)

-- EFI_VARIABLE_APPEND_WRITE: bytes are put behind those that are there
abbrev pub is_append : ℕ → Bool
is_append attributes = not (bit_and attributes 0x40 == 0)

-- What a variable costs: 32 bytes, two for each unit of its name and two for the name's end, and its bytes.
abbrev pub cost_of : ℕ → ℕ → ℕ
cost_of units size = 34 + 2 * units + size

abbrev pub cost : Entry → ℕ
cost entry = cost_of (length entry.name) (length entry.data)

-- what all of them cost
abbrev pub total : List Entry → ℕ
total entries = sum_by cost entries

-- the room that is left of 65,536 bytes
unfoldable pub room_of : List Entry → ℕ
room_of entries = 65_536 - total entries

-- a variable of a vendor by a name
abbrev pub is_named : List ℕ → Guid → Entry → Bool
is_named name vendor entry = same_guid entry.vendor vendor && bytes_eq entry.name name

-- After the end of boot services only variables with runtime access are seen.
abbrev pub is_seen : Bool → Entry → Bool
is_seen runtime entry = not runtime || is_runtime entry.attributes

-- the place of the first variable that passes a test
unfoldable pub index_of : (Entry → Bool) → List Entry → Option ℕ
index_of test [] = None
index_of test (entry ∷ entries) = if test entry then Some 0 else option_map (λ place. suc place) (index_of test entries)

-- the place of a variable that is seen
abbrev pub place_of : List Entry → List ℕ → Guid → Bool → Option ℕ
place_of entries name vendor runtime = index_of (λ entry. is_seen runtime entry && is_named name vendor entry) entries

-- the place of the first variable from a place on that is seen
abbrev pub seen_from : Bool → List Entry → ℕ → Option ℕ
seen_from runtime entries from = option_map (λ place. from + place) (index_of (is_seen runtime) (drop from entries))

-- the place behind one
abbrev pub behind : Bool → List Entry → Option ℕ → Result (Option ℕ) VarRefusal
behind runtime entries None = Err Invalid
behind runtime entries (Some place) = Ok (seen_from runtime entries (place + 1))

-- the next variable that is seen (GetNextVariableName): the first for an empty name
unfoldable pub next_of : List Entry → List ℕ → Guid → Bool → Result (Option ℕ) VarRefusal
next_of entries [] vendor runtime = Ok (seen_from runtime entries 0)
next_of entries (unit ∷ units) vendor runtime = behind runtime entries (place_of entries (unit ∷ units) vendor runtime)
