-- RegisterProtocolNotify (UEFI 2.10, section 7.3.5), where `see` is the place that each address shows and `x` are the
-- registers of the call.
use Rattle.std.specs.Prelude.{ℕ, ◌&&◌, List, Option, Result, Ok, Err, if◌then◌else◌}
use Rattle.uh_base.specs.Statuses.{success, invalid_parameter, out_of_resources}
use Rattle.guest_memory.specs.Pages.{Pages}
use Rattle.address_view.specs.Stored.{lacks_seen, store_seen}
use Rattle.service_answer.specs.Answers.{Answer, gives, lacks_frames}
use Rattle.guest_call.specs.Arguments.{argument}
use Rattle.guest_call.specs.Checks.{can_read, can_write}
use Rattle.event_queue.specs.Queue.{EventList, is_event}
use Rattle.protocol_db.specs.Registrations.{Protocols}
use Rattle.protocol_db.specs.Calls.{Done, registration}
use Rattle.protocol_db.specs.declared.refusal.ProtocolRefusal.{ProtocolRefusal}
use Rattle.guest_call.specs.Inputs.{guid_seen}

-- what a registration comes to, and the memory and the protocols behind it
pub record RegisterDone : Type 0 where
  pub served : Answer
  pub memory : Pages
  pub protocols : Protocols

-- The registration's number is written at an output. Where that would touch more than 65,536 pages, nothing changes.
abbrev pub registration_given : (ℕ → Option ℕ) → Pages → Protocols → ℕ → Result (Done ℕ) ProtocolRefusal → RegisterDone
registration_given see m p at (Ok done) =
    if lacks_seen see m at 8 then record { served = lacks_frames; memory = m; protocols = p }
    else record { served = gives success; memory = store_seen see m at 8 done.answer; protocols = done.after }
registration_given see m p at (Err refusal) = record { served = gives out_of_resources; memory = m; protocols = p }

-- RegisterProtocolNotify(*protocol16, event, *registration8)
unfoldable pub register_protocol_notify : List ℕ → (ℕ → Option ℕ) → Pages → EventList → Protocols → RegisterDone
register_protocol_notify x see m s p =
    if can_read see m (argument 0 x) 16 && (can_write see m (argument 2 x) 8 && is_event s.events (argument 1 x))
    then registration_given see m p (argument 2 x) (registration p (guid_seen see m (argument 0 x)) (argument 1 x))
    else record { served = gives invalid_parameter; memory = m; protocols = p }
