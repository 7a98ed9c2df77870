use Rattle.std.proofs.Common.{◌≡◌, drop, length}
use Rattle.event_queue.specs.Queue.{signal_each}
use Rattle.event_queue.specs.Timers.{due_events}
use Rattle.event_queue.proofs.events.Events.signal_due.Given as goal

abbrev pub invariant-loop-place : goal.invariant-loop-place
invariant-loop-place l = record {
  rest : signal_each (due_events l.present (drop l.place l.self.events)) l.self ≡ signal_each (due_events l.present l.fn.self.events) l.fn.self;
  long : length l.self.events ≡ length l.fn.self.events;
}
