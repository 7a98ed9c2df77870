use Rattle.pool_alloc.proofs.SkipLemmas.{none_over}
use Rattle.pool_alloc.proofs.page.PoolPage.new.Goals as goal

pub invariant_of-result : goal.invariant_of-result
invariant_of-result c = none_over c.push_reserved.new.self.items
