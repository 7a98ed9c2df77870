use Rattle.prov_runs.proofs.OneLemmas.{one_node}
use Rattle.prov_runs.proofs.nodes.one_node.Goals as goal

pub returns : goal.returns
returns c =
    let jumps = c.jump_node.ensures in
    let memory = c.memory_node.ensures in
    one_node c.register_node.ensures memory.loads memory.stores jumps.forks jumps.goes jumps.jumps c.edges_serve.ensures
