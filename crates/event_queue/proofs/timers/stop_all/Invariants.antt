use Rattle.std.proofs.Common.{◌≡◌, ◌++◌, take, drop, map}
use Rattle.event_queue.specs.Timers.{stopped}
use Rattle.event_queue.proofs.timers.stop_all.Given as goal

abbrev pub invariant-loop-event : goal.invariant-loop-event
invariant-loop-event l = l.event-items ≡ map stopped (take l.event-index l.initial.event-items) ++ drop l.event-index l.initial.event-items
