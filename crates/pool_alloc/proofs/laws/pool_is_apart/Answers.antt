use Rattle.pool_alloc.proofs.LawLemmas.{pool_is_apart}
use Rattle.pool_alloc.proofs.laws.pool_is_apart.Goals as goal

pub returns : goal.returns
returns c = pool_is_apart
