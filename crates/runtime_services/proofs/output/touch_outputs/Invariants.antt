use Rattle.std.proofs.Common.{drop}
use Rattle.address_view.specs.Windows.{see}
use Rattle.runtime_services.proofs.MarkLemmas.{Touching}
use Rattle.runtime_services.proofs.output.touch_outputs.Given as goal

abbrev pub invariant-loop-output : goal.invariant-loop-output
invariant-loop-output l = Touching (see l.view) l.initial.memory l.memory l.outputs (drop l.output-index l.outputs)
