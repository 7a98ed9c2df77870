use Rattle.address_view.specs.Windows.{see}
use Rattle.address_view.proofs.LoopLemmas.{Touching}
use Rattle.address_view.proofs.store.touch_all.Given as goal

abbrev pub invariant-loop-left : goal.invariant-loop-left
invariant-loop-left l = Touching (see l.view) l.initial.memory l.memory l.at l.len l.here l.left

abbrev pub decreases-loop-left : goal.decreases-loop-left
decreases-loop-left l = l.left
