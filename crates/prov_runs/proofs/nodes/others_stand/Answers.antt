use Rattle.prov_runs.proofs.MemoryLemmas.{others_stand_at}
use Rattle.prov_runs.proofs.nodes.others_stand.Goals as goal

pub returns : goal.returns
returns c = others_stand_at c.fetches_alike.ensures c.asks_hold.ensures c.asks_fit.ensures c.asks_are_fit.ensures c.regions_stay.ensures
