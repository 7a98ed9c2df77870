use Rattle.prov_types.proofs.AskLemmas.{asked_hold}
use Rattle.prov_types.proofs.laws.asks_hold.Goals as goal

pub returns : goal.returns
returns c = asked_hold c.asks_fit.ensures
