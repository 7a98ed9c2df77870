use Rattle.runtime_whole.proofs.ServiceLemmas.{pool_law}
use Rattle.runtime_whole.proofs.services.pool_keeps.Goals as goal

pub returns : goal.returns
returns c = pool_law c.calls_leave_others.ensures c.pool_leaves_others.ensures
