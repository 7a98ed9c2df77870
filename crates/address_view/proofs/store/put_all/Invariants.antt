use Rattle.std.proofs.Common.{length}
use Rattle.address_view.specs.Windows.{see}
use Rattle.address_view.proofs.LoopLemmas.{Putting}
use Rattle.address_view.proofs.store.put_all.Given as goal

abbrev pub invariant-loop-rest : goal.invariant-loop-rest
invariant-loop-rest l = Putting (see l.view) l.initial.memory l.memory l.at l.bytes l.here l.rest

abbrev pub decreases-loop-rest : goal.decreases-loop-rest
decreases-loop-rest l = length l.rest
