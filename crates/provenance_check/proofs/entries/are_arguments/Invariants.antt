use Rattle.std.proofs.Common.{◌≡◌, drop}
use Rattle.provenance_check.specs.Entries.{are_arguments}
use Rattle.provenance_check.proofs.entries.are_arguments.Given as goal

abbrev pub invariant-loop-k : goal.invariant-loop-k
invariant-loop-k l = are_arguments (drop l.k-index l.arguments) ≡ are_arguments l.arguments
