-- What the definitions come to.
use Rattle.std.specs.Prelude.{ℕ, ◌≡◌, ◌<◌, ◌≤◌, ◌↔◌, IsTrue, true, false, List, slice_get, Option, Some, None, Ok}
use Rattle.uh_base.specs.declared.guid.Guid.{Guid}
use Rattle.event_queue.specs.declared.event.Event.{Event}
use Rattle.event_queue.specs.declared.event.Entry.{Entry}
use Rattle.event_queue.specs.declared.event.Notify.{Notify}
use Rattle.event_queue.specs.Queue.{EventList, Whole, shown, is_event, signalled, next_entry, notified}
use Rattle.event_queue.specs.Timers.{IsMoment, is_due, first_moment, least_due, has_moment, ticked, after_tick, next_moment}
use Rattle.event_queue.specs.Calls.{creation, known, after_signal}

-- An event stands in the queue at most once.
abbrev pub QueuedOnce : Type 0
QueuedOnce = (s : EventList) → Whole s → (i j : ℕ) (a b : Entry) → slice_get s.queue i ≡ Some a → slice_get s.queue j ≡ Some b → a.event ≡ b.event → i ≡ j

-- What is notified next is above the level, no entry has a greater one, and each earlier entry has a lower one.
pub record IsNext (queue : List Entry) (tpl : ℕ) (entry : Entry) : Type 0 where
  pub above : tpl < entry.tpl
  pub greatest : (i : ℕ) (other : Entry) → slice_get queue i ≡ Some other → other.tpl ≤ entry.tpl
  pub earliest : (i : ℕ) × (slice_get queue i ≡ Some entry) × ((j : ℕ) (other : Entry) → j < i → slice_get queue j ≡ Some other → other.tpl < entry.tpl)

-- Nothing is notified only where all entries are at most at the level.
abbrev pub IsNextOf : List Entry → ℕ → Option Entry → Type 0
IsNextOf queue tpl None = (i : ℕ) (other : Entry) → slice_get queue i ≡ Some other → other.tpl ≤ tpl
IsNextOf queue tpl (Some entry) = IsNext queue tpl entry

abbrev pub NextIsGreatest : Type 0
NextIsGreatest = (queue : List Entry) (tpl : ℕ) → IsNextOf queue tpl (next_entry queue tpl)

-- a call at a level above one, from 5 to 30
pub record IsAbove (tpl : ℕ) (notify : Notify) : Type 0 where
  pub above : tpl < notify.tpl
  pub least : 5 ≤ notify.tpl
  pub most : notify.tpl ≤ 30

-- What is notified next is so of the level that was asked for.
abbrev pub NextIsAbove : Type 0
NextIsAbove = (s : EventList) → Whole s → (tpl : ℕ) (notify : Notify) → notified s.events (next_entry s.queue tpl) ≡ Some notify → IsAbove tpl notify

-- a number that no event has and none had
pub record IsNew (s : EventList) (number : ℕ) : Type 0 where
  pub unknown : is_event s.events number ≡ false
  pub above : (i : ℕ) (event : Event) → slice_get s.events i ≡ Some event → event.number < number
  pub after : shown s.made < number

-- The number of a new event is new.
abbrev pub NumbersAreNew : Type 0
NumbersAreNew = (s : EventList) → Whole s → (kind tpl function : ℕ) (group : Option Guid) (number : ℕ) → creation s kind tpl function group ≡ Ok number → IsNew s number

-- Where a number is no event's, a signal of it changes nothing: signals of numbers are calls of SignalEvent.
abbrev pub SignalsAreCalls : Type 0
SignalsAreCalls = (s : EventList) (number : ℕ) → signalled s number ≡ after_signal (known s number) s number

-- A least tick moment from a moment on.
pub record IsFirst (ticks : List ℕ) (low moment : ℕ) : Type 0 where
  pub is_moment : IsMoment ticks moment
  pub from : low ≤ moment
  pub least : (other : ℕ) → IsMoment ticks other → low ≤ other → moment ≤ other

abbrev pub FirstIsLeast : Type 0
FirstIsLeast = (ticks : List ℕ) (low : ℕ) → 0 < low → IsFirst ticks low (first_moment ticks low)

-- A tick is due exactly where a tick moment lies above the last tick and at most at the present.
abbrev pub TicksAtMoments : Type 0
TicksAtMoments = (s : EventList) (present : ℕ) →
    IsTrue (has_moment s present) ↔ ((moment : ℕ) × (s.last_tick < moment) × (moment ≤ present) × IsMoment s.ticks moment)

-- At one moment there is one tick: behind it no tick moment is left up to that moment.
abbrev pub TicksOnce : Type 0
TicksOnce = (s : EventList) (present : ℕ) → has_moment (after_tick s present) present ≡ false

-- With no timer running a tick changes the last tick alone.
abbrev pub IdleTicks : Type 0
IdleTicks = (s : EventList) (present : ℕ) → least_due s.events ≡ None → ticked s present ≡ record s { last_tick = present }

-- At the moment that comes next a timer is due, and it is the least such tick moment.
pub record IsNextMoment (s : EventList) (present moment : ℕ) : Type 0 where
  pub is_moment : IsMoment s.ticks moment
  pub above : s.last_tick < moment
  pub from : present ≤ moment
  pub due : (i : ℕ) × (event : Event) × (slice_get s.events i ≡ Some event) × (is_due moment event ≡ true)
  pub least : (other : ℕ) → IsMoment s.ticks other → s.last_tick < other → present ≤ other
      → (i : ℕ) (event : Event) → slice_get s.events i ≡ Some event → is_due other event ≡ true → moment ≤ other

abbrev pub NextMomentIsDue : Type 0
NextMomentIsDue = (s : EventList) (present moment : ℕ) → next_moment s present ≡ Some moment → IsNextMoment s present moment
