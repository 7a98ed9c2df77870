use Rattle.std.proofs.Common.{◌∙◌, sym}
use Rattle.pool_alloc.proofs.PoolLemmas.{read_blocks}
use Rattle.pool_alloc.proofs.TakeLemmas.{behind_more, behind_over, behind_there}
use Rattle.pool_alloc.proofs.pool.Pool.find.Goals as goal

pub position-requires : goal.position-requires
position-requires c = read_blocks _ c.loop-index.index _ c.loop-index-test.true c.page-item.is (rw c.deref-page-items.ensures.value c.self.invariant)

pub returns-in-Some-clause-place : goal.returns-in-Some-clause-place
returns-in-Some-clause-place c = λ d.
    behind_there _ _ c.loop-index.index c.args.at c.in-Some.place _ d (c.deref-page-items.ensures.value ∙ c.self.view_is) c.loop-index-test.true c.page-item.is (sym c.position.ensures ∙ c.in-Some.is)

pub loop-index-preserved : goal.loop-index-preserved
loop-index-preserved c = behind_more _ c.loop-index.index c.args.at _ c.loop-index-test.true c.page-item.is (sym c.position.ensures ∙ c.in_default.is) c.loop-index.invariant

pub returns-clause-none : goal.returns-clause-none
returns-clause-none c = behind_over _ _ c.loop-index.index c.args.at (c.deref-page-items.ensures.value ∙ c.self.view_is) c.loop-index-test.false c.loop-index.invariant
