use Rattle.prov_types.proofs.LeftLemmas.{narrow_proper}
use Rattle.prov_types.proofs.laws.narrow_is_proper.Goals as goal

pub returns : goal.returns
returns c = narrow_proper
