use Rattle.prov_runs.proofs.NodeLemmas.{sets_at_node}
use Rattle.prov_runs.proofs.nodes.register_node.Goals as goal

pub returns : goal.returns
returns c = sets_at_node c.fetches_alike.ensures c.asks_hold.ensures c.asks_fit.ensures c.asks_are_fit.ensures
