-- Events behind the end of boot services.
use Rattle.std.proofs.Common.{◌≡◌, ◌∙◌, ℕ, Bool, true, false, List, [], ◌∷◌, get_or, refl}
use Rattle.std.specs.Prelude.{if◌then◌else◌}
use Rattle.std.specs.List.{All}
use Rattle.std.proofs.lemmas.List.Elements.{All-map, filter_passes}
use Rattle.event_queue.specs.declared.event.Event.{Event}
use Rattle.event_queue.specs.declared.timer.Timer.TheVariants.{Stopped}
use Rattle.event_queue.specs.Kinds.{exit_group, virtual_group}
use Rattle.event_queue.specs.Queue.{EventList, is_number, is_kept, raised, raised_if, raise_one, raise_each, members, group_signalled, group_kept}
use Rattle.event_queue.specs.Timers.{stopped, all_stopped}
use Rattle.boot_exit.specs.Exits.{exit_finished}
use Rattle.boot_exit.specs.Laws.{NoTimerRunsOn, OthersAreDropped}

abbrev Idle : Event → Type 0
Idle event = event.timer ≡ Stopped

same_timer : (number : ℕ) (event : Event) → (raised_if number event).timer ≡ event.timer
same_timer number event = by (is_number number event)
  where
    by : (b : Bool) → (if b then raised event else event).timer ≡ event.timer
    by true = refl
    by false = refl

one_raised : (number : ℕ) (s : EventList) → All Idle s.events → All Idle (raise_one s number).events
unfolding raise_one
one_raised number s all = All-map Idle (raised_if number) s.events (λ k d i. same_timer number (get_or s.events k d) ∙ all k d i)

each_raised : (numbers : List ℕ) (s : EventList) → All Idle s.events → All Idle (raise_each numbers s).events
unfolding raise_each
each_raised [] s all = all
each_raised (number ∷ numbers) s all = each_raised numbers (raise_one s number) (one_raised number s all)

pub no_timer : NoTimerRunsOn
unfolding group_signalled all_stopped
no_timer s = each_raised (members exit_group (all_stopped s).events) (all_stopped s) (All-map Idle stopped s.events (λ k d i. refl))

pub others_dropped : OthersAreDropped
unfolding exit_finished group_kept
others_dropped layout m s = record { events = filter_passes (is_kept virtual_group) s.events; queue = refl }
