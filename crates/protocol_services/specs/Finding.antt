-- HandleProtocol and LocateProtocol (UEFI 2.10, sections 7.3.7 and 7.3.16), where `see` is the place that each address
-- shows and `x` are the registers of the call.
use Rattle.std.specs.Prelude.{ℕ, ◌==◌, ◌&&◌, List, Option, Some, None, if◌then◌else◌}
use Rattle.uh_base.specs.declared.guid.Guid.{Guid}
use Rattle.uh_base.specs.Statuses.{success, unsupported, not_found}
use Rattle.guest_memory.specs.Pages.{Pages}
use Rattle.guest_call.specs.Arguments.{argument}
use Rattle.guest_call.specs.Checks.{can_read, can_write}
use Rattle.guest_call.specs.Inputs.{guid_seen}
use Rattle.service_answer.specs.Answers.{gives}
use Rattle.handle_db.specs.Database.{is_handle, interface_in}
use Rattle.handle_db.specs.Calls.{first_with}
use Rattle.protocol_db.specs.Registrations.{Protocols, first_pending, first_taken}
use Rattle.protocol_services.specs.Outputs.{MemoryDone, ProtocolDone, invalid, number_given, beside, number_and}

-- The interface is written, or 0 where there is none.
abbrev pub interface_told : (ℕ → Option ℕ) → Pages → ℕ → Option ℕ → MemoryDone
interface_told see m at None = number_given see m at 8 0 unsupported
interface_told see m at (Some interface) = number_given see m at 8 interface success

-- HandleProtocol(handle, *guid16, *interface8): nobody is noted as having opened the protocol.
unfoldable pub handle_protocol : List ℕ → (ℕ → Option ℕ) → Pages → Protocols → ProtocolDone
handle_protocol x see m p =
    if can_read see m (argument 1 x) 16 && (can_write see m (argument 2 x) 8 && is_handle p.handles (argument 0 x))
    then beside p (interface_told see m (argument 2 x) (interface_in p.handles (argument 0 x) (guid_seen see m (argument 1 x))))
    else invalid m p

abbrev pub interface_on : Protocols → Guid → Option ℕ → Option ℕ
interface_on p guid None = None
interface_on p guid (Some handle) = interface_in p.handles handle guid

-- the interface of a protocol: that of the first handle that has it, or, with a registration as the key, that of the
-- handle that is pending longest, where that has it
abbrev pub located : Protocols → Guid → ℕ → Option ℕ
located p guid key = interface_on p guid (if key == 0 then first_with p.handles guid else first_pending p key)

-- The handle that is pending longest is pending no more.
abbrev pub taken : Protocols → ℕ → Protocols
taken p key = if key == 0 then p else first_taken p key

-- The interface is written, or 0 where there is none.
abbrev pub location_told : (ℕ → Option ℕ) → Pages → Protocols → ℕ → ℕ → Option ℕ → ProtocolDone
location_told see m p at key None = number_and see m p at 8 0 (gives not_found) p
location_told see m p at key (Some interface) = number_and see m p at 8 interface (gives success) (taken p key)

-- LocateProtocol(*guid16, key, *interface8)
unfoldable pub locate_protocol : List ℕ → (ℕ → Option ℕ) → Pages → Protocols → ProtocolDone
locate_protocol x see m p =
    if can_read see m (argument 0 x) 16 && can_write see m (argument 2 x) 8
    then location_told see m p (argument 2 x) (argument 1 x) (located p (guid_seen see m (argument 0 x)) (argument 1 x))
    else invalid m p
