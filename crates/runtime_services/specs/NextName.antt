-- GetNextVariableName (UEFI 2.10, section 8.2), where `see` is the place that each address shows, `x` are the registers of
-- the call, and `gone` says that boot services are over.
use Rattle.std.specs.Prelude.{ℕ, ◌&&◌, nat_lt, Bool, true, List, [], ◌∷◌, ◌++◌, length, Option, Some, None, Result, Ok, Err, if◌then◌else◌}
use Rattle.std.specs.Int.{w64, to_le_bytes}
use Rattle.uh_base.specs.declared.guid.Guid.{Guid}
use Rattle.uh_base.specs.Guid as guids
use Rattle.uh_base.specs.Statuses.{success, invalid_parameter, buffer_too_small, not_found}
use Rattle.guest_memory.specs.Pages.{Pages}
use Rattle.variable_store.specs.Entries.{Entry, next_of}
use Rattle.variable_store.specs.Sets.{entry_at}
use Rattle.variable_store.specs.Store.{unit_bytes}
use Rattle.variable_store.specs.declared.refusal.VarRefusal.{VarRefusal}
use Rattle.guest_call.specs.Arguments.{argument}
use Rattle.guest_call.specs.Checks.{can_write, can_write_buffer, number_seen}
use Rattle.runtime_services.specs.declared.next_name.NameOutputs.{NameOutputs}
use Rattle.guest_call.specs.Inputs.{guid_seen}
use Rattle.runtime_services.specs.Inputs.{string_at}
use Rattle.runtime_services.specs.Outputs.{OutputBytes, MemoryDone, told, refused}
use Rattle.runtime_services.specs.Refusals.{variable_status}

abbrev pub name_outputs : List ℕ → NameOutputs
name_outputs x = record { size = argument 0 x; name = argument 1 x; guid = argument 2 x }

-- the bytes of a name, with its end
abbrev pub name_bytes : List ℕ → List ℕ
name_bytes name = unit_bytes name ++ (0 ∷ 0 ∷ [])

abbrev pub size_of : NameOutputs → List ℕ → OutputBytes
size_of o bytes = record { at = o.size; bytes = to_le_bytes w64 (length bytes) }

abbrev pub size_told : (ℕ → Option ℕ) → Pages → NameOutputs → List ℕ → MemoryDone
size_told see m o bytes = told see m buffer_too_small (size_of o bytes ∷ [])

-- the size, the name and the vendor
abbrev pub name_told : (ℕ → Option ℕ) → Pages → NameOutputs → List ℕ → Guid → MemoryDone
name_told see m o bytes vendor = told see m success (size_of o bytes ∷ record { at = o.name; bytes = bytes } ∷ record { at = o.guid; bytes = guids.bytes_of vendor } ∷ [])

-- The name has as much room as the number at the size's address says, and is judged so. Where it needs more, its size is
-- told.
abbrev pub name_given : (ℕ → Option ℕ) → Pages → NameOutputs → ℕ → Entry → MemoryDone
name_given see m o room entry =
    if nat_lt room (length (name_bytes entry.name)) then size_told see m o (name_bytes entry.name)
    else (if can_write_buffer see m o.name room then name_told see m o (name_bytes entry.name) entry.vendor
    else refused m invalid_parameter)

abbrev pub name_if : (ℕ → Option ℕ) → Pages → NameOutputs → ℕ → Option Entry → MemoryDone
name_if see m o room None = refused m not_found
name_if see m o room (Some entry) = name_given see m o room entry

abbrev pub next_if : (ℕ → Option ℕ) → Pages → List Entry → NameOutputs → ℕ → Result (Option ℕ) VarRefusal → MemoryDone
next_if see m entries o room (Ok place) = name_if see m o room (entry_at entries place)
next_if see m entries o room (Err refusal) = refused m (variable_status refusal)

abbrev pub next_named : (ℕ → Option ℕ) → Pages → List Entry → Bool → NameOutputs → Option (List ℕ) → MemoryDone
next_named see m entries gone o None = refused m invalid_parameter
next_named see m entries gone o (Some name) =
    if can_write see m o.size 8 && can_write see m o.guid 16
    then next_if see m entries o (number_seen see m o.size 8) (next_of entries name (guid_seen see m o.guid) gone)
    else refused m invalid_parameter

-- GetNextVariableName(*size8, name, *guid16): each byte of the name up to its end may be written
unfoldable pub get_next_variable_name : List ℕ → (ℕ → Option ℕ) → Pages → List Entry → Bool → MemoryDone
get_next_variable_name x see m entries gone = next_named see m entries gone (name_outputs x) (string_at true see m (argument 1 x))
