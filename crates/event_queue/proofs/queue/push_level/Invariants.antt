use Rattle.std.proofs.Common.{◌≡◌, ◌++◌, take}
use Rattle.std.specs.List.{filter}
use Rattle.event_queue.specs.Queue.{level_calls, is_kept}
use Rattle.event_queue.proofs.queue.push_level.Given as goal

abbrev pub invariant-loop-event : goal.invariant-loop-event
invariant-loop-event l = l.calls.items ≡ l.fn.calls.items ++ level_calls l.tpl (filter (is_kept l.group) (take l.event-index l.events))
