use Rattle.guest_memory.specs.Runs.{bytes_from}
use Rattle.std.proofs.Common.{◌≡◌, ◌<◌, ◌^◌, ◌++◌}
use Rattle.guest_memory.specs.Pages.{bytes_of}
use Rattle.address_view.specs.Windows.{see, seen_bytes}
use Rattle.address_view.specs.Stored.{AllSeen}
use Rattle.address_view.proofs.ranges.load_bytes.Given as goal

abbrev pub invariant-loop-left : goal.invariant-loop-left
invariant-loop-left l = record {
  low : l.here < 2 ^ 64;
  seen : AllSeen (see l.view) l.memory l.here l.left;
  rest : l.bytes.items ++ bytes_from (seen_bytes (see l.view) (bytes_of l.memory)) l.here l.left ≡ bytes_from (seen_bytes (see l.view) (bytes_of l.memory)) l.at l.len;
}

abbrev pub decreases-loop-left : goal.decreases-loop-left
decreases-loop-left l = l.left
