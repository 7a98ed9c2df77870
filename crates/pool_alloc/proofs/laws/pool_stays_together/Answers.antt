use Rattle.pool_alloc.proofs.TogetherLemmas.{stays_together}
use Rattle.pool_alloc.proofs.laws.pool_stays_together.Goals as goal

pub returns : goal.returns
returns c = stays_together c.owned_stay.ensures
