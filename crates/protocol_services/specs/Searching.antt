-- LocateHandle (UEFI 2.10, section 7.3.6), where `see` is the place that each address shows and `x` are the registers of the
-- call.
use Rattle.std.specs.Prelude.{ℕ, ◌*◌, ◌==◌, ◌&&◌, ◌||◌, not, nat_lt, Bool, List, [], ◌∷◌, length, Option, Some, None, if◌then◌else◌}
use Rattle.std.specs.Int.{w64, to_le_bytes}
use Rattle.std.specs.List.{flat_map, list_any}
use Rattle.uh_base.specs.Statuses.{success, invalid_parameter, not_found, buffer_too_small}
use Rattle.guest_memory.specs.Pages.{Pages}
use Rattle.address_view.specs.declared.frames.ByteRange.{ByteRange}
use Rattle.address_view.specs.Ranges.{lacks_ranges}
use Rattle.address_view.specs.Stored.{store_seen, stored}
use Rattle.guest_call.specs.Arguments.{argument, low_word}
use Rattle.guest_call.specs.Checks.{can_read, can_write, can_write_buffer, number_seen}
use Rattle.guest_call.specs.Inputs.{can_read_optional, guid_seen}
use Rattle.service_answer.specs.Answers.{Answer, gives, lacks_frames}
use Rattle.handle_db.specs.Calls.{handles_with}
use Rattle.protocol_db.specs.Registrations.{Protocols, is_numbered, first_pending, first_taken}
use Rattle.protocol_services.specs.Outputs.{MemoryDone, ProtocolDone, invalid, number_given}

abbrev pub one_or_none : Option ℕ → List ℕ
one_or_none None = []
one_or_none (Some handle) = handle ∷ []

-- the handle that is pending longest for a registration, if one is
abbrev pub pending_for : Protocols → ℕ → Option (List ℕ)
pending_for p key = if list_any (is_numbered key) p.registrations then Some (one_or_none (first_pending p key)) else None

-- the handles that have the protocol whose GUID is at an address
abbrev pub with_protocol : (ℕ → Option ℕ) → Pages → Protocols → ℕ → Option (List ℕ)
with_protocol see m p guid = if guid == 0 then None else Some (handles_with p.handles (Some (guid_seen see m guid)))

-- the handles of a search for all handles (0), for the one that is pending longest for a registration (1), or for those
-- that have a protocol (2); none where the search is for nothing of these
unfoldable pub handles_found : (ℕ → Option ℕ) → Pages → Protocols → ℕ → ℕ → ℕ → Option (List ℕ)
handles_found see m p kind guid key =
    if kind == 0 then Some (handles_with p.handles None)
    else if kind == 1 then pending_for p key
    else if kind == 2 then with_protocol see m p guid
    else None

-- A handle that was found as pending is pending no more.
abbrev pub found_taken : Protocols → ℕ → ℕ → Protocols
found_taken p kind key = if kind == 1 then first_taken p key else p

-- numbers of eight bytes, the least byte first
unfoldable pub words : List ℕ → List ℕ
words numbers = flat_map (to_le_bytes w64) numbers

abbrev pub size_and_buffer : ℕ → ℕ → ℕ → List ByteRange
size_and_buffer size_at buffer size = record { at = size_at; len = 8 } ∷ record { at = buffer; len = size } ∷ []

-- The size of the handles is written, and behind it the handles.
abbrev pub handles_told : (ℕ → Option ℕ) → Pages → ℕ → ℕ → List ℕ → MemoryDone
handles_told see m size_at buffer handles =
    if lacks_ranges see m (size_and_buffer size_at buffer (8 * length handles)) then record { answer = lacks_frames; memory = m }
    else record { answer = gives success; memory = stored see (store_seen see m size_at 8 (8 * length handles)) buffer (words handles) }

-- The buffer is as long as the number at the size's address says, and is judged so. Where it is too small, the size that it
-- would need is written.
abbrev pub handles_fitted : (ℕ → Option ℕ) → Pages → ℕ → ℕ → List ℕ → ℕ → MemoryDone
handles_fitted see m size_at buffer handles room =
    if nat_lt room (8 * length handles) then number_given see m size_at 8 (8 * length handles) buffer_too_small
    else (if can_write_buffer see m buffer room then handles_told see m size_at buffer handles
    else record { answer = gives invalid_parameter; memory = m })

abbrev pub handles_given : (ℕ → Option ℕ) → Pages → ℕ → ℕ → Option (List ℕ) → MemoryDone
handles_given see m size_at buffer None = record { answer = gives invalid_parameter; memory = m }
handles_given see m size_at buffer (Some []) = record { answer = gives not_found; memory = m }
handles_given see m size_at buffer (Some (handle ∷ handles)) = handles_fitted see m size_at buffer (handle ∷ handles) (number_seen see m size_at 8)

-- a call was made, with success
abbrev pub is_made : Answer → Bool
is_made answer = not answer.frames && answer.value == success

-- Only where the handles are written, one that is pending is taken.
abbrev pub with_found_taken : Protocols → ℕ → ℕ → MemoryDone → ProtocolDone
with_found_taken p kind key done = record { answer = done.answer; memory = done.memory; protocols = if is_made done.answer then found_taken p kind key else p }

-- LocateHandle(kind, ?guid16, key, *size8, buffer)
unfoldable pub locate_handle : List ℕ → (ℕ → Option ℕ) → Pages → Protocols → ProtocolDone
locate_handle x see m p =
    if can_read_optional see m (argument 1 x) 16 && can_write see m (argument 3 x) 8
    then with_found_taken p (low_word (argument 0 x)) (argument 2 x)
    (handles_given see m (argument 3 x) (argument 4 x) (handles_found see m p (low_word (argument 0 x)) (argument 1 x) (argument 2 x)))
    else invalid m p
