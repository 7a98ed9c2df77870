use Rattle.std.proofs.Common.{◌∙◌, sym}
use Rattle.pool_alloc.proofs.PoolLemmas.{read_blocks, read_can, read_here, read_more, read_none}
use Rattle.pool_alloc.proofs.pool.Pool.first_gap.Goals as goal

pub gap-requires-clause-blocks : goal.gap-requires-clause-blocks
gap-requires-clause-blocks c = read_blocks _ c.loop-index.index _ c.loop-index-test.true c.page-item.is (rw c.deref-page-items.ensures.value c.self.invariant)

pub returns-in-Some-clause-can : goal.returns-in-Some-clause-can
returns-in-Some-clause-can c = λ d.
    read_can _ _ c.loop-index.index c.args.memory_type c.args.size c.in-Some.offset _ d (c.deref-page-items.ensures.value ∙ c.self.view_is) c.loop-index-test.true c.page-item.is
    (rw (← c.self.view_is) c.self.invariant) c.requires.some c.requires.few c.requires.rounded (sym c.gap.ensures ∙ c.in-Some.is)

pub returns-in-Some-clause-some : goal.returns-in-Some-clause-some
returns-in-Some-clause-some c = λ d.
    read_here _ _ c.loop-index.index c.args.memory_type c.args.size c.in-Some.offset _ d (c.deref-page-items.ensures.value ∙ c.self.view_is) c.loop-index-test.true c.page-item.is
    (sym c.gap.ensures ∙ c.in-Some.is) c.loop-index.invariant

pub loop-index-preserved : goal.loop-index-preserved
loop-index-preserved c =
    read_more _ c.loop-index.index c.args.memory_type c.args.size _ c.loop-index-test.true c.page-item.is (sym c.gap.ensures ∙ c.in_default.is) c.loop-index.invariant

pub returns-clause-none : goal.returns-clause-none
returns-clause-none c =
    read_none _ _ c.loop-index.index c.args.memory_type c.args.size (c.deref-page-items.ensures.value ∙ c.self.view_is) c.loop-index-test.false c.loop-index.invariant
