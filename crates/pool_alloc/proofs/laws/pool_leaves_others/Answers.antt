use Rattle.pool_alloc.proofs.OthersLemmas.{leaves_others}
use Rattle.pool_alloc.proofs.laws.pool_leaves_others.Goals as goal

pub returns : goal.returns
returns c = leaves_others c.calls_leave_others.ensures c.owned_are_freed.ensures
