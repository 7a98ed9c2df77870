use Rattle.page_alloc.proofs.OwnerLemmas.{owned_are_freed}
use Rattle.page_alloc.proofs.laws.owned_are_freed.Goals as goal

pub returns : goal.returns
returns c = owned_are_freed
