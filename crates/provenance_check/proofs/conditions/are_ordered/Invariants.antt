use Rattle.std.proofs.Common.{◌<◌, ℕ}
use Rattle.provenance_check.specs.Ground.{BehindAt, ProperAt}
use Rattle.provenance_check.proofs.conditions.are_ordered.Given as goal

abbrev pub invariant-loop-i : goal.invariant-loop-i
invariant-loop-i l = (k : ℕ) → k < l.i → ProperAt l.pieces k × BehindAt l.pieces k
