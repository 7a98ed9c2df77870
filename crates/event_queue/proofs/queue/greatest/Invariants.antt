use Rattle.std.proofs.Common.{◌≡◌, max, drop}
use Rattle.event_queue.specs.Queue.{greatest}
use Rattle.event_queue.proofs.queue.greatest.Given as goal

abbrev pub invariant-loop-entry : goal.invariant-loop-entry
invariant-loop-entry l = max l.top (greatest (drop l.entry-index l.queue)) ≡ greatest l.queue
