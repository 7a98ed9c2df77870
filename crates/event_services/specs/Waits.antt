-- WaitForEvent (UEFI 2.10, section 7.1.5), where `see` is the place that each address shows and `x` are the registers of
-- the call.
use Rattle.std.specs.Prelude.{ℕ, zero, suc, ◌+◌, ◌*◌, ◌==◌, ◌&&◌, not, nat_le, Bool, List, [], ◌∷◌, Option, Some, None, Result, Ok, Err, if◌then◌else◌}
use Rattle.uh_base.specs.Bytes.{behind}
use Rattle.uh_base.specs.Statuses.{success, invalid_parameter, unsupported}
use Rattle.guest_memory.specs.Pages.{Pages}
use Rattle.address_view.specs.Stored.{lacks_seen, store_seen}
use Rattle.guest_call.specs.Arguments.{argument}
use Rattle.guest_call.specs.Checks.{can_write, can_read_buffer, number_seen}
use Rattle.event_queue.specs.Queue.{EventList, lower_one}
use Rattle.event_queue.specs.Timers.{next_moment}
use Rattle.event_queue.specs.Calls.{checking, after_check, taking}
use Rattle.event_queue.specs.declared.refusal.EventRefusal.{EventRefusal}
use Rattle.event_queue.specs.declared.refusal.Check.{Check}
use Rattle.event_queue.specs.declared.refusal.Check.TheVariants.{Signalled, Queued, Quiet}
use Rattle.event_services.specs.declared.awaited.Awaited.{Awaited}
use Rattle.event_services.specs.declared.awaited.Awaited.TheVariants.{Answers, GoesOn, LacksFrames, Idle}
use Rattle.event_services.specs.declared.decision.Decision.{Decision}

-- so many event numbers of 8 bytes, from an address on
unfoldable pub events_seen : (ℕ → Option ℕ) → Pages → ℕ → ℕ → List ℕ
events_seen see m at zero = []
events_seen see m at (suc n) = number_seen see m at 8 ∷ events_seen see m (behind at 8) n

-- which event of a list decides, if one does, and the events behind that
pub record Judged : Type 0 where
  pub decision : Option Decision
  pub events : EventList

-- whether an event decides, with which status: a signalled one, and what is no event or is notified by signals
abbrev pub decides : Result Check EventRefusal → Option ℕ
decides (Ok Signalled) = Some success
decides (Ok Queued) = None
decides (Ok Quiet) = None
decides (Err refusal) = Some invalid_parameter

abbrev pub or_later : Option ℕ → ℕ → EventList → Judged → Judged
or_later None place s later = later
or_later (Some status) place s later = record { decision = Some (record { status = status; place = place }); events = s }

-- The events of a list are checked one after another, from a place of the list on, up to the first that decides. The
-- signal of that one is cleared; the notifications of those before it are queued where they have EVT_NOTIFY_WAIT.
unfoldable pub judged : ℕ → List ℕ → EventList → Judged
judged place [] s = record { decision = None; events = s }
judged place (number ∷ numbers) s =
    or_later (decides (checking s number)) place (after_check (checking s number) s number) (judged (place + 1) numbers (after_check (checking s number) s number))

-- The first signalled event of a list decides, from a place of the list on, and its signal is cleared.
unfoldable pub polled : ℕ → List ℕ → EventList → Judged
polled place [] s = record { decision = None; events = s }
polled place (number ∷ numbers) s =
    if taking s number then record { decision = Some (record { status = success; place = place }); events = lower_one s number }
    else polled (place + 1) numbers s

-- The place of the event that decides is written as its index. Where that would touch more than 65,536 pages, memory is
-- as before, and the run halts.
pub record IndexDone : Type 0 where
  pub answer : Awaited
  pub memory : Pages

abbrev pub index_written : (ℕ → Option ℕ) → Pages → ℕ → Decision → IndexDone
index_written see m at decision =
    if lacks_seen see m at 8 then record { answer = LacksFrames; memory = m }
    else record { answer = Answers decision.status; memory = store_seen see m at 8 decision.place }

-- what a phase of WaitForEvent comes to, and the memory and the events behind it
pub record WaitDone : Type 0 where
  pub answer : Awaited
  pub memory : Pages
  pub events : EventList

abbrev pub with_events : EventList → IndexDone → WaitDone
with_events s done = record { answer = done.answer; memory = done.memory; events = s }

-- Where no event decides, the call goes on.
abbrev pub judged_to : (ℕ → Option ℕ) → Pages → ℕ → EventList → Option Decision → WaitDone
judged_to see m at s None = record { answer = GoesOn; memory = m; events = s }
judged_to see m at s (Some decision) = with_events s (index_written see m at decision)

abbrev pub index_of : (ℕ → Option ℕ) → Pages → ℕ → Judged → WaitDone
index_of see m at done = judged_to see m at done.events done.decision

-- so many events may be waited for: one at least, and 256 at most by this host's choice
abbrev pub is_count : ℕ → Bool
is_count n = not (n == 0) && nat_le n 256

-- whether the index may be written, and a list of such a length is seen
unfoldable pub can_wait : List ℕ → (ℕ → Option ℕ) → Pages → Bool
can_wait x see m = can_write see m (argument 2 x) 8 && (is_count (argument 0 x) && can_read_buffer see m (argument 1 x) (8 * argument 0 x))

-- WaitForEvent(number, events, *index8), where it comes again behind a wait: its events are checked.
unfoldable pub wait_anew : List ℕ → (ℕ → Option ℕ) → Pages → EventList → WaitDone
wait_anew x see m s =
    if can_wait x see m then index_of see m (argument 2 x) (judged 0 (events_seen see m (argument 1 x) (argument 0 x)) s)
    else record { answer = Answers invalid_parameter; memory = m; events = s }

-- WaitForEvent as it is called, which is at TPL_APPLICATION, 4, alone. That is asked behind the index and the number of
-- events, and before the list.
unfoldable pub wait_for_event : List ℕ → ℕ → (ℕ → Option ℕ) → Pages → EventList → WaitDone
wait_for_event x tpl see m s =
    if can_write see m (argument 2 x) 8 && (is_count (argument 0 x) && not (tpl == 4))
    then record { answer = Answers unsupported; memory = m; events = s }
    else wait_anew x see m s

-- what a wait for a signal comes to, and the memory, the events and the moment behind it
pub record SignalDone : Type 0 where
  pub answer : Awaited
  pub memory : Pages
  pub events : EventList
  pub moment : ℕ

abbrev pub with_moment : ℕ → EventList → IndexDone → SignalDone
with_moment moment s done = record { answer = done.answer; memory = done.memory; events = s; moment = moment }

-- With no signal the moment becomes the next one at which a timer is due, and the call goes on. Without a timer the run
-- halts.
pub record PassDone : Type 0 where
  pub answer : Awaited
  pub moment : ℕ

abbrev pub passed_to : ℕ → Option ℕ → PassDone
passed_to present None = record { answer = Idle; moment = present }
passed_to present (Some moment) = record { answer = GoesOn; moment = moment }

abbrev pub with_memory : Pages → EventList → PassDone → SignalDone
with_memory m s done = record { answer = done.answer; memory = m; events = s; moment = done.moment }

abbrev pub polled_to : (ℕ → Option ℕ) → Pages → ℕ → ℕ → EventList → Option Decision → SignalDone
polled_to see m at present s None = with_memory m s (passed_to present (next_moment s present))
polled_to see m at present s (Some decision) = with_moment present s (index_written see m at decision)

abbrev pub signal_of : (ℕ → Option ℕ) → Pages → ℕ → ℕ → Judged → SignalDone
signal_of see m at present done = polled_to see m at present done.events done.decision

-- WaitForEvent, once the notifications of its events are over: the first signalled event is taken, or time passes.
unfoldable pub wait_for_signal : List ℕ → (ℕ → Option ℕ) → Pages → EventList → ℕ → SignalDone
wait_for_signal x see m s present =
    if can_wait x see m then signal_of see m (argument 2 x) present (polled 0 (events_seen see m (argument 1 x) (argument 0 x)) s)
    else record { answer = Answers invalid_parameter; memory = m; events = s; moment = present }
