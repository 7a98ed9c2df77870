-- Events and the queue of notifications (UEFI 2.10, section 7.1).
use Rattle.std.specs.Prelude.{ℕ, ◌≡◌, ◌<◌, ◌≤◌, ◌+◌, ◌*◌, ◌^◌, ◌==◌, ◌&&◌, ◌||◌, nat_lt, max, not, zero, suc, Bool, true, false, List, [], ◌∷◌, ◌++◌, map, length, Option, Some, None, if◌then◌else◌}
use Rattle.std.specs.List.{list_any, list_all, find, filter}
use Rattle.uh_base.specs.declared.guid.Guid.{Guid}
use Rattle.event_queue.specs.declared.event.Event.{Event}
use Rattle.event_queue.specs.declared.event.Entry.{Entry}
use Rattle.event_queue.specs.declared.event.Notify.{Notify}
use Rattle.event_queue.specs.Kinds.{is_signal, notifies, is_level}
use Rattle.uh_base.specs.Guid.{same_guid}

-- the live events in order of making; the queue of notifications in order of signalling; how many events were made;
-- the listed tick moments; the last tick, 0 at first
pub record EventList : Type 0 where
  pub events : List Event
  pub queue : List Entry
  pub made : ℕ
  pub ticks : List ℕ
  pub last_tick : ℕ

-- the number that the event made as the n-th, from 1 on, is known by
abbrev pub shown : ℕ → ℕ
shown n = 16 * n + 8

abbrev pub is_number : ℕ → Event → Bool
is_number number event = event.number == number

-- the live event of a number
abbrev pub event_at : List Event → ℕ → Option Event
event_at events number = find (is_number number) events

abbrev pub is_event : List Event → ℕ → Bool
is_event events number = list_any (is_number number) events

-- the notification of an event
abbrev pub entry_of : Event → Entry
entry_of event = record { event = event.number; tpl = event.tpl }

abbrev pub is_entry : ℕ → Entry → Bool
is_entry number entry = entry.event == number

-- A notification of the event stands in the queue.
abbrev pub is_queued : List Entry → ℕ → Bool
is_queued queue number = list_any (is_entry number) queue

-- ---- signalling

-- a signal of the event would queue its notification: it isn't signalled yet, and is of a type that is notified by signals
abbrev pub is_fresh : Event → Bool
is_fresh event = not event.signalled && is_signal event.kind

abbrev pub raised : Event → Event
raised event = record event { signalled = true }

abbrev pub lowered : Event → Event
lowered event = record event { signalled = false }

abbrev pub raised_if : ℕ → Event → Event
raised_if number event = if is_number number event then raised event else event

abbrev pub lowered_if : ℕ → Event → Event
lowered_if number event = if is_number number event then lowered event else event

-- the event of a number signalled, by itself: one that is signalled already stays as it is
unfoldable pub raise_one : EventList → ℕ → EventList
raise_one s number =
    record s {
      events = map (raised_if number) s.events;
      queue = s.queue ++ map entry_of (filter (λ event. is_number number event && is_fresh event) s.events);
    }

-- events signalled, each by itself, one after another
unfoldable pub raise_each : List ℕ → EventList → EventList
raise_each [] s = s
raise_each (number ∷ numbers) s = raise_each numbers (raise_one s number)

abbrev pub has_group : Guid → Option Guid → Bool
has_group group None = false
has_group group (Some other) = same_guid other group

abbrev pub in_group : Guid → Event → Bool
in_group group event = has_group group event.group

-- the events of a group, in order of making
unfoldable pub members : Guid → List Event → List ℕ
members group events = map (λ event. event.number) (filter (in_group group) events)

-- the events of an event's group, none where it has no group
abbrev pub companions : Option Guid → List Event → List ℕ
companions None events = []
companions (Some group) events = members group events

abbrev pub group_of : Option Event → Option Guid
group_of None = None
group_of (Some event) = event.group

-- A signal of an event is one of each event of its group: first the event itself, then the others in order of making.
unfoldable pub signalled : EventList → ℕ → EventList
signalled s number = raise_each (companions (group_of (event_at s.events number)) s.events) (raise_one s number)

-- signals of events, one after another
unfoldable pub signal_each : List ℕ → EventList → EventList
signal_each [] s = s
signal_each (number ∷ numbers) s = signal_each numbers (signalled s number)

-- a signal of a whole group
unfoldable pub group_signalled : EventList → Guid → EventList
group_signalled s group = raise_each (members group s.events) s

-- the event of a number no longer signalled
unfoldable pub lower_one : EventList → ℕ → EventList
lower_one s number = record s { events = map (lowered_if number) s.events }

-- the notification of the event of a number in the queue, once
unfoldable pub queue_one : EventList → ℕ → EventList
queue_one s number = if is_queued s.queue number then s else record s { queue = s.queue ++ map entry_of (filter (is_number number) s.events) }

-- an event gone, and its notification with it
unfoldable pub without : EventList → ℕ → EventList
without s number =
    record s {
      events = filter (λ event. not (is_number number event)) s.events;
      queue = filter (λ entry. not (is_entry number entry)) s.queue;
    }

-- ---- what is notified next

-- the greatest level in the queue, 0 where nothing is queued
unfoldable pub greatest : List Entry → ℕ
greatest [] = 0
greatest (entry ∷ queue) = max entry.tpl (greatest queue)

-- the earliest of the greatest level, where that is above a level
unfoldable pub next_entry : List Entry → ℕ → Option Entry
next_entry queue tpl = if nat_lt tpl (greatest queue) then find (λ entry. entry.tpl == greatest queue) queue else None

-- the function and the context of the event of a number, 0 where there is none
abbrev pub function_of : Option Event → ℕ
function_of None = 0
function_of (Some event) = event.function

abbrev pub context_of : Option Event → ℕ
context_of None = 0
context_of (Some event) = event.context

-- what is called for a notification
abbrev pub called : List Event → Entry → Notify
called events entry =
    record {
      event = entry.event;
      function = function_of (event_at events entry.event);
      context = context_of (event_at events entry.event);
      tpl = entry.tpl;
    }

-- the answer of `next`, and the list behind it: the notification is taken from the queue, and its event is no longer
-- signalled
unfoldable pub notified : List Event → Option Entry → Option Notify
notified events None = None
notified events (Some entry) = Some (called events entry)

unfoldable pub after_next : EventList → Option Entry → EventList
after_next s None = s
after_next s (Some entry) =
    record s {
      events = map (lowered_if entry.event) s.events;
      queue = filter (λ other. not (is_entry entry.event other)) s.queue;
    }

-- ---- what is left of the events after boot services

-- an event of a group that is notified by signals
abbrev pub is_kept : Guid → Event → Bool
is_kept group event = in_group group event && is_signal event.kind

unfoldable pub group_kept : EventList → Guid → EventList
group_kept s group = record s { events = filter (is_kept group) s.events; queue = [] }

abbrev pub call_of : Event → Notify
call_of event = record { event = event.number; function = event.function; context = event.context; tpl = event.tpl }

-- the calls of the events of a level, in order of making
abbrev pub level_calls : ℕ → List Event → List Notify
level_calls tpl events = map call_of (filter (λ event. event.tpl == tpl) events)

-- the calls of events of levels below one, by falling level and then in order of making
unfoldable pub falling : ℕ → List Event → List Notify
falling zero events = []
falling (suc tpl) events = level_calls tpl events ++ falling tpl events

-- those of a group's events that are kept
unfoldable pub kept_calls : List Event → Guid → List Notify
kept_calls events group = falling 31 (filter (is_kept group) events)

-- ---- what is so of every list of events

-- Numbers rise in order of making, above one number and up to another.
abbrev pub Rising : ℕ → List Event → ℕ → Type 0
Rising low [] high = low ≤ high
Rising low (event ∷ events) high = (low < event.number) × Rising event.number events high

-- An event that is notified has a level for it.
abbrev pub has_level : Event → Bool
has_level event = not (notifies event.kind) || is_level event.tpl

-- A notification is that of an event that can be notified.
abbrev pub is_entry_of : Entry → Event → Bool
is_entry_of entry event = event.number == entry.event && (event.tpl == entry.tpl && notifies event.kind)

abbrev pub is_live : List Event → Entry → Bool
is_live events entry = list_any (is_entry_of entry) events

-- Each event stands in the queue at most once.
abbrev pub EachOnce : List Entry → Type 0
EachOnce [] = Unit {0}
EachOnce (entry ∷ queue) = (is_queued queue entry.event ≡ false) × EachOnce queue

-- An event whose notification a signal would queue isn't queued.
abbrev pub FreshWait : List Entry → List Event → Type 0
FreshWait queue [] = Unit {0}
FreshWait queue (event ∷ events) = (is_fresh event ≡ true → is_queued queue event.number ≡ false) × FreshWait queue events

pub record Whole (s : EventList) : Type 0 where
  pub few : length s.events ≤ 256
  pub made : s.made < 2 ^ 60
  pub rising : Rising 8 s.events (shown s.made)
  pub levels : list_all has_level s.events ≡ true
  pub live : list_all (is_live s.events) s.queue ≡ true
  pub once : EachOnce s.queue
  pub fresh : FreshWait s.queue s.events
