use Rattle.provenance_attest.proofs.PassLemmas.{all_pass}
use Rattle.provenance_attest.proofs.laws.none_fails_all_pass.Goals as goal

pub returns : goal.returns
returns c = all_pass c.none_fails_stands.ensures c.laid_is_ordered.ensures c.map_is_map.ensures
