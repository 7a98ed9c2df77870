use Rattle.provenance_check.specs.Reached.{SpreadTo}
use Rattle.provenance_check.proofs.marks.spread.Given as goal

abbrev pub invariant-loop-n : goal.invariant-loop-n
invariant-loop-n l = SpreadTo l.n l.nodes l.fn.marks l.marks l.more
