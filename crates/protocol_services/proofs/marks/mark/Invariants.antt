use Rattle.address_view.specs.Windows.{see}
use Rattle.protocol_services.proofs.MarkLemmas.{Marking}
use Rattle.protocol_services.proofs.marks.mark.Given as goal

abbrev pub invariant-loop-left : goal.invariant-loop-left
invariant-loop-left l = Marking (see l.view) l.memory l.initial.marks l.at l.len l.marks l.here l.left

abbrev pub decreases-loop-left : goal.decreases-loop-left
decreases-loop-left l = l.left
