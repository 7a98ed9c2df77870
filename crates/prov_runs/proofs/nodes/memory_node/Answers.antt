use Rattle.prov_runs.proofs.MemoryLemmas.{loads_at_node, stores_at_node}
use Rattle.prov_runs.proofs.nodes.memory_node.Goals as goal

pub returns-clause-loads : goal.returns-clause-loads
returns-clause-loads c =
    loads_at_node c.fetches_alike.ensures c.asks_hold.ensures c.asks_fit.ensures c.asks_are_fit.ensures c.bits_fit.ensures c.reads_hold.ensures c.loads_hold.ensures.span c.loads_hold.ensures.stack

pub returns-clause-stores : goal.returns-clause-stores
returns-clause-stores c =
    let outside = c.stores_keep.ensures in
    let inside = c.stack_stores_keep.ensures in
    stores_at_node c.fetches_alike.ensures c.asks_hold.ensures c.asks_fit.ensures c.asks_are_fit.ensures outside.shared outside.others outside.code outside.parts inside.shared inside.code inside.parts c.regions_stay.ensures
