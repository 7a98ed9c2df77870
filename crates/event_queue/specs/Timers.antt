-- Timers and tick moments (UEFI 2.10, section 7.1, SetTimer).
use Rattle.std.specs.Prelude.{ℕ, ◌≡◌, ◌<◌, ◌+◌, ◌-◌, ◌*◌, ◌/◌, ◌%◌, ◌^◌, ◌==◌, ◌⊎◌, nat_le, min, max, Bool, false, List, [], ◌∷◌, map, Option, Some, None, if◌then◌else◌}
use Rattle.std.specs.List.{filter, Contains}
use Rattle.event_queue.specs.declared.timer.Timer.{Timer}
use Rattle.event_queue.specs.declared.timer.Timer.TheVariants.{Stopped, Once, Periodic}
use Rattle.event_queue.specs.declared.event.Event.{Event}
use Rattle.event_queue.specs.Queue.{EventList, is_number, signal_each}

-- a moment so many units behind another. It stops at the last one.
abbrev pub later : ℕ → ℕ → ℕ
later time by = min (time + by) (2 ^ 64 - 1)

-- the timer that SetTimer sets: 0 cancels, 1 is periodic, 2 is relative to the present
abbrev pub timer_for : ℕ → ℕ → ℕ → Timer
timer_for kind time present = if kind == 0 then Stopped else (if kind == 1 then Periodic (later present time) time else Once (later present time))

-- the moment at which a running timer is due
abbrev pub due_of : Timer → Option ℕ
due_of Stopped = None
due_of (Once due) = Some due
due_of (Periodic due period) = Some due

abbrev pub is_up_to : ℕ → Option ℕ → Bool
is_up_to present None = false
is_up_to present (Some due) = nat_le due present

-- due at most at the present
abbrev pub is_due : ℕ → Event → Bool
is_due present event = is_up_to present (due_of event.timer)

-- a timer that was due, at a tick: a relative one stops, a periodic one is due a period behind the tick
abbrev pub rewound_timer : ℕ → Timer → Timer
rewound_timer present Stopped = Stopped
rewound_timer present (Once due) = Stopped
rewound_timer present (Periodic due period) = Periodic (later present period) period

abbrev pub rewound : ℕ → Event → Event
rewound present event = if is_due present event then record event { timer = rewound_timer present event.timer } else event

-- the events whose timers are due, in order of making
unfoldable pub due_events : ℕ → List Event → List ℕ
due_events present events = map (λ event. event.number) (filter (is_due present) events)

abbrev pub set_if : ℕ → Timer → Event → Event
set_if number timer event = if is_number number event then record event { timer = timer } else event

-- the timer of the event of a number set
unfoldable pub with_timer : EventList → ℕ → Timer → EventList
with_timer s number timer = record s { events = map (set_if number timer) s.events }

-- no timer running
abbrev pub stopped : Event → Event
stopped event = record event { timer = Stopped }

unfoldable pub all_stopped : EventList → EventList
all_stopped s = record s { events = map stopped s.events }

abbrev pub lesser : Option ℕ → Option ℕ → Option ℕ
lesser None b = b
lesser (Some a) None = Some a
lesser (Some a) (Some b) = Some (min a b)

-- the least moment at which a running timer is due, None where none runs
unfoldable pub least_due : List Event → Option ℕ
least_due [] = None
least_due (event ∷ events) = lesser (due_of event.timer) (least_due events)

-- ---- tick moments

-- the listed tick moments, and the last tick
pub record Ticks : Type 0 where
  pub listed : List ℕ
  pub last : ℕ

-- The tick moments are the positive multiples of 10,000 and the listed ones.
abbrev pub IsMoment : List ℕ → ℕ → Type 0
IsMoment ticks moment = ((0 < moment) × (moment % 10000 ≡ 0)) ⊎ Contains ticks moment

-- the least multiple of 10,000 from a moment on
abbrev pub rounded : ℕ → ℕ
rounded low = (low + 9999) / 10000 * 10000

-- the least tick moment from a positive moment on
unfoldable pub first_moment : List ℕ → ℕ → ℕ
first_moment [] low = rounded low
first_moment (tick ∷ ticks) low = if nat_le low tick then min tick (first_moment ticks low) else first_moment ticks low

-- the least tick moment above the last tick
abbrev pub moment_ahead : EventList → ℕ
moment_ahead s = first_moment s.ticks (s.last_tick + 1)

-- A tick moment lies above the last tick and at most at the present.
unfoldable pub has_moment : EventList → ℕ → Bool
has_moment s present = nat_le (moment_ahead s) present

-- all due timers rewound, and the last tick at the present
abbrev pub all_rewound : ℕ → EventList → EventList
all_rewound present s = record s { events = map (rewound present) s.events; last_tick = present }

-- a tick: each timer that is due signals its event, in order of making
unfoldable pub ticked : EventList → ℕ → EventList
ticked s present = all_rewound present (signal_each (due_events present s.events) s)

-- the list behind `tick`
unfoldable pub after_tick : EventList → ℕ → EventList
after_tick s present = if has_moment s present then ticked s present else s

-- a moment that a clock of 64 bits reaches
abbrev pub reached : ℕ → Option ℕ
reached moment = if nat_le moment (2 ^ 64 - 1) then Some moment else None

-- the least tick moment above the last tick that is at least the present and at least a due moment
abbrev pub moment_for : EventList → ℕ → Option ℕ → Option ℕ
moment_for s present None = None
moment_for s present (Some due) = reached (first_moment s.ticks (max (s.last_tick + 1) (max present due)))

unfoldable pub next_moment : EventList → ℕ → Option ℕ
next_moment s present = moment_for s present (least_due s.events)
