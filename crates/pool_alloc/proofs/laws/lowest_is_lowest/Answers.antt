use Rattle.pool_alloc.proofs.LawLemmas.{lowest_is_lowest}
use Rattle.pool_alloc.proofs.laws.lowest_is_lowest.Goals as goal

pub returns : goal.returns
returns c = lowest_is_lowest
