-- What the calls answer, and the list behind them (UEFI 2.10, section 7.1).
use Rattle.std.specs.Prelude.{ℕ, ◌+◌, ◌-◌, ◌^◌, ◌==◌, ◌&&◌, ◌||◌, nat_le, not, Bool, false, List, [], ◌∷◌, ◌++◌, length, Option, Some, None, Result, Ok, Err, if◌then◌else◌}
use Rattle.uh_base.specs.declared.guid.Guid.{Guid}
use Rattle.event_queue.specs.declared.event.Event.{Event}
use Rattle.event_queue.specs.declared.refusal.EventRefusal.{EventRefusal}
use Rattle.event_queue.specs.declared.refusal.EventRefusal.TheVariants.{Invalid, Full}
use Rattle.event_queue.specs.declared.refusal.Check.{Check}
use Rattle.event_queue.specs.declared.refusal.Check.TheVariants.{Signalled, Queued, Quiet}
use Rattle.event_queue.specs.declared.timer.Timer.TheVariants.{Stopped}
use Rattle.event_queue.specs.Kinds.{is_request, is_timer, is_wait, is_signal, group_for}
use Rattle.event_queue.specs.Queue.{EventList, shown, event_at, is_event, signalled, lower_one, queue_one, without}
use Rattle.event_queue.specs.Timers.{timer_for, with_timer}

-- no events, at the start of time
abbrev pub no_events : List ℕ → EventList
no_events ticks = record { events = []; queue = []; made = 0; ticks = ticks; last_tick = 0 }

-- 256 events are live, or no number is left
abbrev pub is_full : EventList → Bool
is_full s = length s.events == 256 || s.made == 2 ^ 60 - 1

-- CreateEventEx: the new event's number
unfoldable pub creation : EventList → ℕ → ℕ → ℕ → Option Guid → Result ℕ EventRefusal
creation s kind tpl function group = if is_request kind tpl function group then (if is_full s then Err Full else Ok (shown (s.made + 1))) else Err Invalid

abbrev pub new_event : ℕ → ℕ → ℕ → ℕ → ℕ → Option Guid → Event
new_event number kind tpl function context group =
    record { number = number; kind = kind; tpl = tpl; function = function; context = context; group = group_for kind group; signalled = false; timer = Stopped }

unfoldable pub with_event : EventList → Event → EventList
with_event s event = record s { events = s.events ++ event ∷ []; made = s.made + 1 }

unfoldable pub after_creation : Result ℕ EventRefusal → EventList → ℕ → ℕ → ℕ → ℕ → Option Guid → EventList
after_creation (Ok number) s kind tpl function context group = with_event s (new_event number kind tpl function context group)
after_creation (Err refusal) s kind tpl function context group = s

-- SignalEvent and CloseEvent refuse what is no event
unfoldable pub known : EventList → ℕ → Result (Unit {0}) EventRefusal
known s number = if is_event s.events number then Ok tt else Err Invalid

abbrev pub after_signal : {X : Type 0} → Result X EventRefusal → EventList → ℕ → EventList
after_signal (Ok done) s number = signalled s number
after_signal (Err refusal) s number = s

abbrev pub after_close : {X : Type 0} → Result X EventRefusal → EventList → ℕ → EventList
after_close (Ok done) s number = without s number
after_close (Err refusal) s number = s

-- SetTimer
abbrev pub setting_of : Option Event → ℕ → Result (Unit {0}) EventRefusal
setting_of None kind = Err Invalid
setting_of (Some event) kind = if is_timer event.kind && nat_le kind 2 then Ok tt else Err Invalid

unfoldable pub setting : EventList → ℕ → ℕ → Result (Unit {0}) EventRefusal
setting s number kind = setting_of (event_at s.events number) kind

abbrev pub after_setting : {X : Type 0} → Result X EventRefusal → EventList → ℕ → ℕ → ℕ → ℕ → EventList
after_setting (Ok done) s number kind time present = with_timer s number (timer_for kind time present)
after_setting (Err refusal) s number kind time present = s

-- CheckEvent, first part
abbrev pub check_of : Option Event → Result Check EventRefusal
check_of None = Err Invalid
check_of (Some event) =
    if is_signal event.kind then Err Invalid
    else (if event.signalled then Ok Signalled
    else (if is_wait event.kind then Ok Queued else Ok Quiet))

unfoldable pub checking : EventList → ℕ → Result Check EventRefusal
checking s number = check_of (event_at s.events number)

abbrev pub after_check : Result Check EventRefusal → EventList → ℕ → EventList
after_check (Ok Signalled) s number = lower_one s number
after_check (Ok Queued) s number = queue_one s number
after_check (Ok Quiet) s number = s
after_check (Err refusal) s number = s

-- CheckEvent and WaitForEvent, once their notifications are over
abbrev pub takes : Option Event → Bool
takes None = false
takes (Some event) = event.signalled && not (is_signal event.kind)

unfoldable pub taking : EventList → ℕ → Bool
taking s number = takes (event_at s.events number)

abbrev pub after_taking : Bool → EventList → ℕ → EventList
after_taking taken s number = if taken then lower_one s number else s
