use Rattle.address_view.specs.Windows.{see}
use Rattle.std.proofs.Common.{◌≡◌, ◌<◌, ◌^◌}
use Rattle.uh_base.specs.Bytes.{first_refused}
use Rattle.address_view.specs.Seen.{is_seen}
use Rattle.address_view.proofs.ranges.unseen.Given as goal

abbrev pub invariant-loop-left : goal.invariant-loop-left
invariant-loop-left l = record {
  low : l.here < 2 ^ 64;
  rest : first_refused (is_seen (see l.view) l.memory) l.here l.left ≡ first_refused (is_seen (see l.view) l.memory) l.at l.len;
}

abbrev pub decreases-loop-left : goal.decreases-loop-left
decreases-loop-left l = l.left
