use Rattle.std.proofs.Common.{◌≡◌, ◌++◌, take, drop, map}
use Rattle.event_queue.specs.Timers.{rewound}
use Rattle.event_queue.proofs.timers.rewind_all.Given as goal

abbrev pub invariant-loop-event : goal.invariant-loop-event
invariant-loop-event l = l.event-items ≡ map (rewound l.present) (take l.event-index l.initial.event-items) ++ drop l.event-index l.initial.event-items
