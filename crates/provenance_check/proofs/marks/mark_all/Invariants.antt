use Rattle.provenance_check.specs.Reached.{MarkedTo}
use Rattle.provenance_check.proofs.marks.mark_all.Given as goal

abbrev pub invariant-loop-i : goal.invariant-loop-i
invariant-loop-i l = MarkedTo l.i l.numbers l.fn.marks l.marks l.more
