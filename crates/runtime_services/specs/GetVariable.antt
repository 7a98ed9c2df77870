-- GetVariable (UEFI 2.10, section 8.2), where `see` is the place that each address shows, `x` are the registers of the
-- call, and `gone` says that boot services are over.
use Rattle.std.specs.Prelude.{ℕ, ◌&&◌, nat_lt, Bool, false, List, [], ◌∷◌, length, Option, Some, None, if◌then◌else◌}
use Rattle.std.specs.Int.{w32, w64, to_le_bytes}
use Rattle.uh_base.specs.Statuses.{success, invalid_parameter, buffer_too_small, not_found}
use Rattle.guest_memory.specs.Pages.{Pages}
use Rattle.variable_store.specs.Entries.{Entry, place_of}
use Rattle.variable_store.specs.Sets.{entry_at}
use Rattle.guest_call.specs.Arguments.{argument}
use Rattle.guest_call.specs.Checks.{can_write, can_write_buffer, can_read, number_seen}
use Rattle.guest_call.specs.Outputs.{can_write_optional}
use Rattle.runtime_services.specs.declared.get.VariableOutputs.{VariableOutputs}
use Rattle.guest_call.specs.Inputs.{guid_seen}
use Rattle.runtime_services.specs.Inputs.{string_at}
use Rattle.runtime_services.specs.Outputs.{OutputBytes, MemoryDone, told, refused, unless_zero}

-- the addresses that a call brings
abbrev pub variable_outputs : List ℕ → VariableOutputs
variable_outputs x = record { attributes = argument 2 x; size = argument 3 x; buffer = argument 4 x }

-- the attributes, unless their address is 0, and the size of the data
abbrev pub sizes_of : VariableOutputs → Entry → List OutputBytes → List OutputBytes
sizes_of o entry later = unless_zero o.attributes (to_le_bytes w32 entry.attributes) ∷ record { at = o.size; bytes = to_le_bytes w64 (length entry.data) } ∷ later

-- The buffer is as long as the number at the size's address says, and is judged so. Where the data is longer, its size is
-- told, with the attributes.
abbrev pub variable_given : (ℕ → Option ℕ) → Pages → VariableOutputs → ℕ → Entry → MemoryDone
variable_given see m o room entry =
    if nat_lt room (length entry.data) then told see m buffer_too_small (sizes_of o entry [])
    else (if can_write_buffer see m o.buffer room then told see m success (sizes_of o entry (record { at = o.buffer; bytes = entry.data } ∷ []))
    else refused m invalid_parameter)

abbrev pub variable_if : (ℕ → Option ℕ) → Pages → VariableOutputs → ℕ → Option Entry → MemoryDone
variable_if see m o room None = refused m not_found
variable_if see m o room (Some entry) = variable_given see m o room entry

-- each output but the buffer may be written
abbrev pub are_variable_outputs : (ℕ → Option ℕ) → Pages → VariableOutputs → Bool
are_variable_outputs see m o = can_write_optional see m o.attributes 4 && can_write see m o.size 8

abbrev pub variable_named : (ℕ → Option ℕ) → Pages → List Entry → Bool → ℕ → VariableOutputs → Option (List ℕ) → MemoryDone
variable_named see m entries gone guid o None = refused m invalid_parameter
variable_named see m entries gone guid o (Some name) =
    if can_read see m guid 16 && are_variable_outputs see m o
    then variable_if see m o (number_seen see m o.size 8) (entry_at entries (place_of entries name (guid_seen see m guid) gone))
    else refused m invalid_parameter

-- GetVariable(name, *guid16, ?attributes4, *size8, buffer)
unfoldable pub get_variable : List ℕ → (ℕ → Option ℕ) → Pages → List Entry → Bool → MemoryDone
get_variable x see m entries gone = variable_named see m entries gone (argument 1 x) (variable_outputs x) (string_at false see m (argument 0 x))
