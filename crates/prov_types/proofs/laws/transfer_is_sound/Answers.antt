use Rattle.prov_types.proofs.AskLemmas.{transfer_sound}
use Rattle.prov_types.proofs.laws.transfer_is_sound.Goals as goal

pub returns : goal.returns
returns c = transfer_sound c.asks_fit.ensures
