use Rattle.prov_laws.proofs.CallLemmas.{go_alike}
use Rattle.prov_laws.proofs.calls.calls_go_alike.Goals as goal

pub returns : goal.returns
returns c = go_alike c.none_fails_judges.ensures c.call_nodes_are_judged.ensures c.step_for_step.ensures
