use Rattle.prov_types.proofs.ProperLemmas.{transfer_proper}
use Rattle.prov_types.proofs.laws.transfer_is_proper.Goals as goal

pub returns : goal.returns
returns c = transfer_proper
