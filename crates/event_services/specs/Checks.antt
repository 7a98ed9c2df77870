-- CheckEvent (UEFI 2.10, section 7.1.6), where `x` are the registers of the call.
use Rattle.std.specs.Prelude.{ℕ, List, Result, Ok, Err, if◌then◌else◌}
use Rattle.uh_base.specs.Statuses.{success, not_ready}
use Rattle.guest_call.specs.Arguments.{argument}
use Rattle.event_queue.specs.Queue.{EventList}
use Rattle.event_queue.specs.Calls.{checking, after_check, taking, after_taking}
use Rattle.event_queue.specs.declared.refusal.EventRefusal.{EventRefusal}
use Rattle.event_queue.specs.declared.refusal.Check.{Check}
use Rattle.event_queue.specs.declared.refusal.Check.TheVariants.{Signalled, Queued, Quiet}
use Rattle.event_services.specs.declared.awaited.Awaited.{Awaited}
use Rattle.event_services.specs.declared.awaited.Awaited.TheVariants.{Answers, GoesOn}
use Rattle.event_services.specs.Changes.{event_status}

-- what CheckEvent comes to, and the events behind it
pub record CheckDone : Type 0 where
  pub answer : Awaited
  pub events : EventList

-- An event whose notification is queued may be signalled by it, so the call goes on behind the notifications.
abbrev pub found : Result Check EventRefusal → Awaited
found (Ok Signalled) = Answers success
found (Ok Queued) = GoesOn
found (Ok Quiet) = Answers not_ready
found (Err refusal) = Answers (event_status refusal)

-- CheckEvent(event)
unfoldable pub check_event : List ℕ → EventList → CheckDone
check_event x s = record { answer = found (checking s (argument 0 x)); events = after_check (checking s (argument 0 x)) s (argument 0 x) }

-- CheckEvent, once its notification is over: whether the event is signalled now. A signal is cleared.
unfoldable pub check_event_notified : List ℕ → EventList → CheckDone
check_event_notified x s = record {
  answer = Answers (if taking s (argument 0 x) then success else not_ready);
  events = after_taking (taking s (argument 0 x)) s (argument 0 x);
}
