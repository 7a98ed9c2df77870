use Rattle.std.proofs.Common.{◌≡◌, drop}
use Rattle.event_queue.specs.Timers.{lesser, least_due}
use Rattle.event_queue.proofs.timers.least_due.Given as goal

abbrev pub invariant-loop-event : goal.invariant-loop-event
invariant-loop-event l = lesser l.least (least_due (drop l.event-index l.events)) ≡ least_due l.events
