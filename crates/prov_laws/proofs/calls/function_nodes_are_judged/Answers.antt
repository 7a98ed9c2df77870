use Rattle.prov_laws.proofs.CallLemmas.{functions_judged}
use Rattle.prov_laws.proofs.calls.function_nodes_are_judged.Goals as goal

pub returns : goal.returns
returns c = functions_judged c.length_is_of_the_low_bits.ensures c.none_fails_judges.ensures
