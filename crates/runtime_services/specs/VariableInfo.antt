-- QueryVariableInfo (UEFI 2.10, section 8.2), where `see` is the place that each address shows and `x` are the registers of
-- the call.
use Rattle.std.specs.Prelude.{ℕ, ◌-◌, ◌==◌, ◌&&◌, not, bit_and, bit_or, Bool, List, [], ◌∷◌, Option, if◌then◌else◌}
use Rattle.std.specs.Int.{w64, to_le_bytes}
use Rattle.uh_base.specs.Statuses.{success, invalid_parameter, unsupported}
use Rattle.guest_memory.specs.Pages.{Pages}
use Rattle.variable_store.specs.Entries.{Entry, room_of}
use Rattle.guest_call.specs.Arguments.{argument, low_word}
use Rattle.guest_call.specs.Checks.{can_write}
use Rattle.runtime_services.specs.declared.info.InfoOutputs.{InfoOutputs}
use Rattle.runtime_services.specs.Outputs.{MemoryDone, told, refused}

-- what all variables may cost
abbrev pub storage : ℕ
storage = 65_536

abbrev pub info_outputs : List ℕ → InfoOutputs
info_outputs x = record { most = argument 1 x; left = argument 2 x; one = argument 3 x }

-- attributes beside non-volatile, boot access and runtime access; and a variable that doesn't outlive the run or isn't
-- seen before the end of boot services
abbrev pub has_unknown_bits : ℕ → Bool
has_unknown_bits attributes = not (bit_or attributes 7 == 7)

abbrev pub lacks_kept_bits : ℕ → Bool
lacks_kept_bits attributes = not (bit_and attributes 3 == 3)

-- what all variables may cost, the room that is left, and the most that the name and the data of a new one may take of it:
-- such a variable costs 32 bytes besides, and two for its name's end
abbrev pub info_told : (ℕ → Option ℕ) → Pages → InfoOutputs → ℕ → MemoryDone
info_told see m o room = told see m success (record { at = o.most; bytes = to_le_bytes w64 storage } ∷ record { at = o.left; bytes = to_le_bytes w64 room } ∷ record { at = o.one; bytes = to_le_bytes w64 (room - 34) } ∷ [])

abbrev pub info_if : (ℕ → Option ℕ) → Pages → InfoOutputs → ℕ → ℕ → MemoryDone
info_if see m o attributes room =
    if has_unknown_bits attributes then refused m unsupported
    else (if lacks_kept_bits attributes then refused m invalid_parameter
    else info_told see m o room)

abbrev pub are_info_outputs : (ℕ → Option ℕ) → Pages → InfoOutputs → Bool
are_info_outputs see m o = can_write see m o.most 8 && (can_write see m o.left 8 && can_write see m o.one 8)

-- QueryVariableInfo(attributes, *most8, *left8, *one8)
unfoldable pub query_variable_info : List ℕ → (ℕ → Option ℕ) → Pages → List Entry → MemoryDone
query_variable_info x see m entries =
    if are_info_outputs see m (info_outputs x) then info_if see m (info_outputs x) (low_word (argument 0 x)) (room_of entries) else refused m invalid_parameter
