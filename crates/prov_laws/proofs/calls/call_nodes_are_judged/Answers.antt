use Rattle.prov_laws.proofs.CallLemmas.{call_nodes}
use Rattle.prov_laws.proofs.calls.call_nodes_are_judged.Goals as goal

pub returns : goal.returns
returns c = call_nodes c.length_is_of_the_low_bits.ensures c.none_fails_judges.ensures
