use Rattle.std.proofs.Common.{drop}
use Rattle.address_view.specs.Windows.{see}
use Rattle.runtime_services.proofs.MarkLemmas.{Putting}
use Rattle.runtime_services.proofs.output.put_outputs.Given as goal

abbrev pub invariant-loop-output : goal.invariant-loop-output
invariant-loop-output l = Putting (see l.view) l.initial.memory l.memory l.outputs (drop l.output-index l.outputs)
