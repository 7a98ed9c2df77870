-- OpenProtocol and CloseProtocol (UEFI 2.10, sections 7.3.9 and 7.3.10), where `see` is the place that each address shows
-- and `x` are the registers of the call.
use Rattle.std.specs.Prelude.{ℕ, ◌==◌, ◌&&◌, ◌||◌, not, Bool, false, List, Option, Result, Ok, Err, if◌then◌else◌}
use Rattle.uh_base.specs.Statuses.{success}
use Rattle.guest_memory.specs.Pages.{Pages}
use Rattle.guest_call.specs.Arguments.{argument, low_word}
use Rattle.guest_call.specs.Checks.{can_read}
use Rattle.guest_call.specs.Inputs.{guid_seen}
use Rattle.guest_call.specs.Outputs.{can_write_optional, optional}
use Rattle.protocol_db.specs.declared.request.OpenRequest.{OpenRequest}
use Rattle.protocol_db.specs.Registrations.{Protocols}
use Rattle.protocol_db.specs.Calls.{Done, protocol_opening, closing}
use Rattle.protocol_db.specs.declared.refusal.ProtocolRefusal.{ProtocolRefusal}
use Rattle.protocol_db.specs.declared.refusal.ProtocolRefusal.TheVariants.{Invalid, NotFound, Unsupported, AccessDenied, AlreadyStarted, Full, Memory}
use Rattle.protocol_services.specs.Refusals.{protocol_status}
use Rattle.service_answer.specs.Answers.{Answer, gives, lacks_frames}
use Rattle.protocol_services.specs.Outputs.{ProtocolDone, invalid, refused, number_and}
use Rattle.protocol_services.specs.Installing.{changed}

abbrev pub request_of : List ℕ → (ℕ → Option ℕ) → Pages → OpenRequest
request_of x see m = record { handle = argument 0 x; guid = guid_seen see m (argument 1 x); agent = argument 3 x; controller = argument 4 x; attributes = low_word (argument 5 x) }

-- TEST_PROTOCOL asks whether the protocol is there. Only then may the output be left out.
abbrev pub is_test : ℕ → Bool
is_test attributes = attributes == 4

-- A refusal tells that there is no interface: the handle hasn't the protocol, and the interface was asked for.
abbrev pub tells_none : OpenRequest → ProtocolRefusal → Bool
tells_none r Unsupported = not (is_test r.attributes)
tells_none r Invalid = false
tells_none r NotFound = false
tells_none r AccessDenied = false
tells_none r AlreadyStarted = false
tells_none r Full = false
tells_none r Memory = false

-- 0 is written where a refusal tells that there is no interface.
abbrev pub not_opened : (ℕ → Option ℕ) → Pages → Protocols → ℕ → OpenRequest → ProtocolRefusal → ProtocolDone
not_opened see m p at r refusal = if tells_none r refusal then number_and see m p at 8 0 (gives (protocol_status refusal)) p else refused m p (protocol_status refusal)

-- The interface is written, where the output isn't left out.
abbrev pub opened : (ℕ → Option ℕ) → Pages → Protocols → ℕ → OpenRequest → Result (Done ℕ) ProtocolRefusal → ProtocolDone
opened see m p at r (Ok done) = number_and see m p at (optional at 8) done.answer (gives success) done.after
opened see m p at r (Err refusal) = not_opened see m p at r refusal

-- the answer where a write would lack frames
abbrev pub answer_without : OpenRequest → Result (Done ℕ) ProtocolRefusal → Answer
answer_without r (Ok done) = lacks_frames
answer_without r (Err refusal) = if tells_none r refusal then lacks_frames else gives (protocol_status refusal)

-- the pointers of a call of OpenProtocol
abbrev pub may_open : (ℕ → Option ℕ) → Pages → ℕ → ℕ → ℕ → Bool
may_open see m guid at attributes = can_read see m guid 16 && (can_write_optional see m at 8 && (is_test attributes || not (at == 0)))

-- OpenProtocol(handle, *guid16, ?interface8, agent, controller, attributes)
unfoldable pub open_protocol : List ℕ → (ℕ → Option ℕ) → Pages → Protocols → ProtocolDone
open_protocol x see m p =
    if may_open see m (argument 1 x) (argument 2 x) (low_word (argument 5 x))
    then opened see m p (argument 2 x) (request_of x see m) (protocol_opening p (request_of x see m))
    else invalid m p

-- CloseProtocol(handle, *guid16, agent, controller)
unfoldable pub close_protocol : List ℕ → (ℕ → Option ℕ) → Pages → Protocols → ProtocolDone
close_protocol x see m p =
    if can_read see m (argument 1 x) 16
    then changed m p (closing p (argument 0 x) (guid_seen see m (argument 1 x)) (argument 2 x) (argument 3 x))
    else invalid m p
