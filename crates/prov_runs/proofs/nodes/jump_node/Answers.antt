use Rattle.prov_runs.proofs.NodeLemmas.{forks_at_node, goes_at_node, jumps_at_node}
use Rattle.prov_runs.proofs.nodes.jump_node.Goals as goal

pub returns-clause-goes : goal.returns-clause-goes
returns-clause-goes c = goes_at_node c.fetches_alike.ensures c.asks_hold.ensures c.asks_fit.ensures c.asks_are_fit.ensures

pub returns-clause-jumps : goal.returns-clause-jumps
returns-clause-jumps c = jumps_at_node c.fetches_alike.ensures c.asks_hold.ensures c.asks_fit.ensures c.asks_are_fit.ensures

pub returns-clause-forks : goal.returns-clause-forks
returns-clause-forks c = forks_at_node c.fetches_alike.ensures c.asks_hold.ensures c.asks_fit.ensures c.asks_are_fit.ensures
