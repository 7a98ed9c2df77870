-- What the definitions of the end of boot services come to.
use Rattle.std.specs.Prelude.{◌≡◌, true, [], Ok}
use Rattle.std.specs.List.{All}
use Rattle.guest_memory.specs.Pages.{Pages}
use Rattle.page_alloc.specs.declared.layout.Layout.{Layout}
use Rattle.event_queue.specs.declared.event.Event.{Event}
use Rattle.event_queue.specs.declared.timer.Timer.TheVariants.{Stopped}
use Rattle.event_queue.specs.Kinds.{virtual_group}
use Rattle.event_queue.specs.Queue.{EventList, is_kept}
use Rattle.boot_exit.specs.Exits.{after_begin, exit_finished}

-- no timer runs behind the begin
abbrev pub begun : EventList → EventList
begun s = after_begin {X = Unit {0}} (Ok tt) s

abbrev pub NoTimerRunsOn : Type 0
NoTimerRunsOn = (s : EventList) → All (λ (event : Event). event.timer ≡ Stopped) (begun s).events

-- what is left is kept, and no notification is queued
pub record OnlyKept (s : EventList) : Type 0 where
  pub events : All (λ (event : Event). is_kept virtual_group event ≡ true) s.events
  pub queue : s.queue ≡ []

abbrev pub OthersAreDropped : Type 0
OthersAreDropped = (layout : Layout) (m : Pages) (s : EventList) → OnlyKept (exit_finished layout m s).events
