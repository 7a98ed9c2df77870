use Rattle.std.proofs.Common.{◌≡◌, drop}
use Rattle.std.specs.Prelude.{replicate}
use Rattle.prov_types.specs.declared.kinds.Kind.TheVariants.{Num, Ptr}
use Rattle.prov_types.specs.Spans.{one}
use Rattle.provenance_check.specs.Registers.{naming, written}
use Rattle.provenance_check.proofs.entries.start_kinds.Given as goal

abbrev pub invariant-loop-k : goal.invariant-loop-k
invariant-loop-k l = naming l.kinds (drop l.k-index l.arguments) ≡ naming (written (written (replicate 32 (Num (one 0))) 1 (Ptr 3 (one 0))) 2 (Ptr 1 (one 65536))) l.arguments
