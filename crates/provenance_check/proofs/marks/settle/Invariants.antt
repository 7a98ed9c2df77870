use Rattle.std.proofs.Common.{◌≡◌, length}
use Rattle.provenance_check.specs.Reached.{AreMarked, AreReached, unmarked}
use Rattle.provenance_check.proofs.marks.settle.Given as goal

abbrev pub invariant-loop : goal.invariant-loop
invariant-loop l = (length l.marks ≡ length l.nodes) × AreReached l.nodes l.starts l.marks × AreMarked l.marks l.starts

abbrev pub decreases-loop : goal.decreases-loop
decreases-loop l = unmarked l.marks
