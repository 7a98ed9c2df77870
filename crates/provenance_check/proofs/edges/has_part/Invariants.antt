use Rattle.std.proofs.Common.{◌≡◌, drop}
use Rattle.provenance_check.specs.Rules.{has_part}
use Rattle.provenance_check.proofs.edges.has_part.Given as goal

abbrev pub invariant-loop-q : goal.invariant-loop-q
invariant-loop-q l = has_part (drop l.q-index l.have) l.p ≡ has_part l.have l.p
