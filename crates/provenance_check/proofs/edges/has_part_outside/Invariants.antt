use Rattle.std.proofs.Common.{◌≡◌, drop}
use Rattle.prov_layout.specs.Stack.{without}
use Rattle.provenance_check.specs.Rules.{has_part}
use Rattle.provenance_check.proofs.edges.has_part_outside.Given as goal

abbrev pub invariant-loop-q : goal.invariant-loop-q
invariant-loop-q l = has_part (without l.o l.width (drop l.q-index l.have)) l.p ≡ has_part (without l.o l.width l.have) l.p
