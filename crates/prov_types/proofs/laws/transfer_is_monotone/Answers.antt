use Rattle.prov_types.proofs.WiderLemmas.{transfer_monotone}
use Rattle.prov_types.proofs.laws.transfer_is_monotone.Goals as goal

pub returns : goal.returns
returns c = transfer_monotone
