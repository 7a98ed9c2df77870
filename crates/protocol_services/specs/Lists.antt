-- OpenProtocolInformation, ProtocolsPerHandle and LocateHandleBuffer (UEFI 2.10, sections 7.3.11, 7.3.14 and 7.3.15), where
-- `see` is the place that each address shows and `x` are the registers of the call.
use Rattle.std.specs.Prelude.{ℕ, zero, suc, ◌+◌, ◌*◌, ◌&&◌, true, false, List, [], ◌∷◌, ◌++◌, length, Option, Some, None, Result, Ok, Err, if◌then◌else◌}
use Rattle.std.specs.Int.{w32, w64, to_le_bytes}
use Rattle.std.specs.List.{flat_map}
use Rattle.uh_base.specs.declared.guid.Guid.{Guid}
use Rattle.uh_base.specs.Guid.{bytes_of}
use Rattle.uh_base.specs.Bytes.{behind}
use Rattle.uh_base.specs.Statuses.{invalid_parameter, not_found}
use Rattle.guest_memory.specs.Pages.{Pages}
use Rattle.page_alloc.specs.Pages.{PageList}
use Rattle.pool_alloc.specs.Pool.{BlockPage}
use Rattle.guest_call.specs.Arguments.{argument, low_word}
use Rattle.guest_call.specs.Checks.{can_read, can_write}
use Rattle.guest_call.specs.Inputs.{can_read_optional, guid_seen}
use Rattle.handle_db.specs.declared.entry.OpenEntry.{OpenEntry}
use Rattle.handle_db.specs.Database.{is_handle}
use Rattle.handle_db.specs.Calls.{guids_in}
use Rattle.protocol_db.specs.Registrations.{Protocols}
use Rattle.protocol_db.specs.Calls.{information}
use Rattle.protocol_db.specs.declared.refusal.ProtocolRefusal.{ProtocolRefusal}
use Rattle.protocol_services.specs.declared.outputs.ListOutputs.{ListOutputs}
use Rattle.service_answer.specs.Answers.{Answer}
use Rattle.protocol_services.specs.Refusals.{protocol_status}
use Rattle.protocol_services.specs.Blocks.{BlockDone, block_refused, list_given, block_address}
use Rattle.protocol_services.specs.Searching.{handles_found, found_taken, is_made, words}

-- an entry: agent and controller of eight bytes each, attributes and count of four each
abbrev pub entry_bytes : OpenEntry → List ℕ
entry_bytes e = to_le_bytes w64 e.agent ++ (to_le_bytes w64 e.controller ++ (to_le_bytes w32 e.attributes ++ to_le_bytes w32 e.count))

unfoldable pub entries_bytes : List OpenEntry → List ℕ
entries_bytes opens = flat_map entry_bytes opens

abbrev pub information_given : (ℕ → Option ℕ) → Pages → PageList → List BlockPage → ListOutputs → Result (List OpenEntry) ProtocolRefusal → BlockDone
information_given see m pages pool o (Ok opens) = list_given see m pages pool o (entries_bytes opens) (length opens)
information_given see m pages pool o (Err refusal) = block_refused m pages pool (protocol_status refusal)

-- OpenProtocolInformation(handle, *guid16, *entries8, *count8): a block with the entries. The address is 0 where there is
-- none.
unfoldable pub open_protocol_information : List ℕ → (ℕ → Option ℕ) → Pages → PageList → List BlockPage → Protocols → BlockDone
open_protocol_information x see m pages pool p =
    if can_read see m (argument 1 x) 16 && (can_write see m (argument 2 x) 8 && can_write see m (argument 3 x) 8)
    then information_given see m pages pool (record { first = argument 2 x; second = argument 3 x; count_first = false }) (information p (argument 0 x) (guid_seen see m (argument 1 x)))
    else block_refused m pages pool invalid_parameter

-- the addresses of so many GUIDs, from one on
unfoldable pub guid_addresses : ℕ → ℕ → List ℕ
guid_addresses at zero = []
guid_addresses at (suc n) = at ∷ guid_addresses (behind at 16) n

-- pointers to GUIDs, and behind them the GUIDs, in a block at an address
unfoldable pub guid_list : List Guid → ℕ → List ℕ
guid_list guids at = words (guid_addresses (behind at (8 * length guids)) (length guids)) ++ flat_map bytes_of guids

abbrev pub guids_given : (ℕ → Option ℕ) → Pages → PageList → List BlockPage → ListOutputs → List Guid → BlockDone
guids_given see m pages pool o guids = list_given see m pages pool o (guid_list guids (block_address pages pool (24 * length guids))) (length guids)

-- ProtocolsPerHandle(handle, *pointers8, *count8): a block with pointers to the GUIDs of the protocols and with the GUIDs.
unfoldable pub protocols_per_handle : List ℕ → (ℕ → Option ℕ) → Pages → PageList → List BlockPage → Protocols → BlockDone
protocols_per_handle x see m pages pool p =
    if can_write see m (argument 1 x) 8 && (can_write see m (argument 2 x) 8 && is_handle p.handles (argument 0 x))
    then guids_given see m pages pool (record { first = argument 1 x; second = argument 2 x; count_first = false }) (guids_in p.handles (argument 0 x))
    else block_refused m pages pool invalid_parameter

abbrev pub found_given : (ℕ → Option ℕ) → Pages → PageList → List BlockPage → ListOutputs → Option (List ℕ) → BlockDone
found_given see m pages pool o None = block_refused m pages pool invalid_parameter
found_given see m pages pool o (Some []) = block_refused m pages pool not_found
found_given see m pages pool o (Some (handle ∷ handles)) = list_given see m pages pool o (words (handle ∷ handles)) (length (handle ∷ handles))

-- LocateHandleBuffer(kind, ?guid16, key, *count8, *handles8): a block with the handles, but for what is pending, which
-- `found_taken` says.
unfoldable pub locate_handle_buffer : List ℕ → (ℕ → Option ℕ) → Pages → PageList → List BlockPage → Protocols → BlockDone
locate_handle_buffer x see m pages pool p =
    if can_read_optional see m (argument 1 x) 16 && (can_write see m (argument 3 x) 8 && can_write see m (argument 4 x) 8)
    then found_given see m pages pool (record { first = argument 3 x; second = argument 4 x; count_first = true }) (handles_found see m p (low_word (argument 0 x)) (argument 1 x) (argument 2 x))
    else block_refused m pages pool invalid_parameter

-- A handle that was found as pending is pending no more.
abbrev pub buffer_taken : List ℕ → Protocols → Answer → Protocols
buffer_taken x p answer = if is_made answer then found_taken p (low_word (argument 0 x)) (argument 2 x) else p
