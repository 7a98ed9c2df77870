-- SetTimer, SignalEvent and CloseEvent (UEFI 2.10, sections 7.1.7, 7.1.4 and 7.1.3), where `x` are the registers of the
-- call.
use Rattle.std.specs.Prelude.{ℕ, List, Result, Ok, Err}
use Rattle.uh_base.specs.Statuses.{success, invalid_parameter, out_of_resources}
use Rattle.service_answer.specs.Answers.{Answer, gives}
use Rattle.guest_call.specs.Arguments.{argument, low_word}
use Rattle.event_queue.specs.Queue.{EventList}
use Rattle.event_queue.specs.Calls.{known, setting, after_setting, after_signal, after_close}
use Rattle.event_queue.specs.declared.refusal.EventRefusal.{EventRefusal}
use Rattle.event_queue.specs.declared.refusal.EventRefusal.TheVariants as refusals
use Rattle.protocol_db.specs.Registrations.{Protocols}
use Rattle.protocol_db.specs.Calls.{forgotten}

-- the status of a refusal
abbrev pub event_status : EventRefusal → ℕ
event_status refusals.Invalid = invalid_parameter
event_status refusals.Full = out_of_resources

-- the status of a call that is done or refused
abbrev pub status_of : {X : Type 0} → Result X EventRefusal → ℕ
status_of (Ok done) = success
status_of (Err refusal) = event_status refusal

-- what a service comes to, and the events behind it
pub record EventsDone : Type 0 where
  pub served : Answer
  pub events : EventList

-- SetTimer(event, kind, time): 0 cancels, 1 is periodic and 2 relative to the present moment, in units of 100 ns.
unfoldable pub set_timer : List ℕ → ℕ → EventList → EventsDone
set_timer x present s = record {
  served = gives (status_of (setting s (argument 0 x) (low_word (argument 1 x))));
  events = after_setting (setting s (argument 0 x) (low_word (argument 1 x))) s (argument 0 x) (low_word (argument 1 x)) (argument 2 x) present;
}

-- SignalEvent(event)
unfoldable pub signal_event : List ℕ → EventList → EventsDone
signal_event x s = record {
  served = gives (status_of (known s (argument 0 x)));
  events = after_signal (known s (argument 0 x)) s (argument 0 x);
}

-- what CloseEvent comes to, and the events and the protocols behind it
pub record CloseDone : Type 0 where
  pub served : Answer
  pub events : EventList
  pub protocols : Protocols

-- the protocols behind the close of an event
abbrev pub after_forgetting : {X : Type 0} → Result X EventRefusal → Protocols → ℕ → Protocols
after_forgetting (Ok done) p event = forgotten p event
after_forgetting (Err refusal) p event = p

-- CloseEvent(event): its registrations for protocols go with it.
unfoldable pub close_event : List ℕ → EventList → Protocols → CloseDone
close_event x s p = record {
  served = gives (status_of (known s (argument 0 x)));
  events = after_close (known s (argument 0 x)) s (argument 0 x);
  protocols = after_forgetting (known s (argument 0 x)) p (argument 0 x);
}
