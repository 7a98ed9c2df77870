use Rattle.std.proofs.Common.{◌≡◌, ◌++◌, ◌-◌}
use Rattle.std.specs.List.{filter}
use Rattle.event_queue.specs.Queue.{falling, kept_calls, is_kept}
use Rattle.event_queue.proofs.queue.falling_calls.Given as goal

abbrev pub invariant-loop-below : goal.invariant-loop-below
invariant-loop-below l = l.calls.items ++ falling (31 - l.below) (filter (is_kept l.group) l.events) ≡ kept_calls l.events l.group
