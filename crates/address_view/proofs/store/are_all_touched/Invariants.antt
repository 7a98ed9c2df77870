use Rattle.address_view.specs.Windows.{see}
use Rattle.std.proofs.Common.{◌≡◌, ◌<◌, ◌^◌}
use Rattle.address_view.specs.Stored.{AllSeen, all_touched}
use Rattle.address_view.proofs.store.are_all_touched.Given as goal

abbrev pub invariant-loop-left : goal.invariant-loop-left
invariant-loop-left l = record {
  low : l.here < 2 ^ 64;
  seen : AllSeen (see l.view) l.memory l.here l.left;
  rest : all_touched (see l.view) l.memory l.here l.left ≡ all_touched (see l.view) l.memory l.at l.len;
}

abbrev pub decreases-loop-left : goal.decreases-loop-left
decreases-loop-left l = l.left
