use Rattle.pool_alloc.proofs.SkipLemmas.{all_over}
use Rattle.pool_alloc.proofs.page.longest_gap.Goals as goal

pub returns : goal.returns
returns c =
    all_over c.args.blocks.now c.loop-block.block-index c.loop-block.end c.loop-block.longest _ c.max.ensures c.loop-block-test.false c.loop-block.invariant.low c.requires c.loop-block.invariant.same
