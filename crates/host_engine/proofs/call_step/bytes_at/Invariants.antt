use Rattle.std.proofs.Common.{◌≡◌, ◌++◌}
use Rattle.guest_memory.specs.Pages.{bytes_of}
use Rattle.guest_memory.specs.Runs.{bytes_from}
use Rattle.host_engine.proofs.call_step.bytes_at.Given as goal

abbrev pub invariant-loop-left : goal.invariant-loop-left
invariant-loop-left l = l.bytes.items ++ bytes_from (bytes_of l.memory) l.here l.left ≡ bytes_from (bytes_of l.memory) l.at l.len

abbrev pub decreases-loop-left : goal.decreases-loop-left
decreases-loop-left l = l.left
