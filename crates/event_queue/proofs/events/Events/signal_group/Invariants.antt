use Rattle.std.proofs.Common.{◌≡◌, drop, length}
use Rattle.event_queue.specs.Queue.{raise_each, members, group_signalled}
use Rattle.event_queue.proofs.events.Events.signal_group.Given as goal

abbrev pub invariant-loop-place : goal.invariant-loop-place
invariant-loop-place l = record {
  rest : raise_each (members l.group (drop l.place l.self.events)) l.self ≡ group_signalled l.fn.self l.group;
  long : length l.self.events ≡ length l.fn.self.events;
}
