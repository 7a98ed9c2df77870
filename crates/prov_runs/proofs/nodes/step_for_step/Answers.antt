use Rattle.prov_runs.proofs.StepLemmas.{step_for_step}
use Rattle.prov_runs.proofs.nodes.step_for_step.Goals as goal

pub returns : goal.returns
returns c = step_for_step c.one_node.ensures
