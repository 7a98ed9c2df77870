use Rattle.std.proofs.Common.{◌≡◌, drop}
use Rattle.event_queue.specs.Queue.{signal_each}
use Rattle.event_queue.proofs.events.Events.signal_all.Given as goal

abbrev pub invariant-loop-event : goal.invariant-loop-event
invariant-loop-event l = signal_each (drop l.event-index l.events) l.self ≡ signal_each l.events l.fn.self
