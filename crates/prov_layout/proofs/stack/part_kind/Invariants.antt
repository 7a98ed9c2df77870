use Rattle.std.proofs.Common.{◌≡◌, drop}
use Rattle.prov_layout.specs.Stack.{part_kind}
use Rattle.prov_layout.proofs.stack.part_kind.Given as goal

abbrev pub invariant-loop-p : goal.invariant-loop-p
invariant-loop-p l = part_kind (drop l.p-index l.parts) l.o l.width ≡ part_kind l.parts l.o l.width
