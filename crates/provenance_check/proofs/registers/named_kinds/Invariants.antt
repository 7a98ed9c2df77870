use Rattle.std.proofs.Common.{◌≡◌, drop}
use Rattle.std.specs.Prelude.{◌∷◌, replicate}
use Rattle.prov_types.specs.declared.kinds.Kind.TheVariants.{Any, Num}
use Rattle.prov_types.specs.Spans.{one}
use Rattle.provenance_check.specs.Registers.{naming}
use Rattle.provenance_check.proofs.registers.named_kinds.Given as goal

abbrev pub invariant-loop-k : goal.invariant-loop-k
invariant-loop-k l = naming l.kinds (drop l.k-index l.regs) ≡ naming (Num (one 0) ∷ replicate 31 Any) l.regs
