use Rattle.std.proofs.Common.{◌∙◌, sym}
use Rattle.pool_alloc.proofs.GapLemmas.{gap_here, gap_last, gap_none, gap_is_lowest}
use Rattle.pool_alloc.proofs.page.lowest_gap.Goals as goal

pub returns-then-block-end : goal.returns-then-block-end
returns-then-block-end c =
    sym (gap_here c.args.blocks.now c.loop-block.block-index c.loop-block.end c.args.size _ c.loop-block-test.true c.requires.some c.if-block-end.true)
    ∙ c.loop-block.invariant.same ∙ gap_is_lowest c.args.blocks.now c.args.size c.requires.some c.requires.shared

pub returns-then-end-size : goal.returns-then-end-size
returns-then-end-size c =
    sym (gap_last c.args.blocks.now c.loop-block.block-index c.loop-block.end c.args.size c.loop-block-test.false c.requires.some c.if-end-size.true)
    ∙ c.loop-block.invariant.same ∙ gap_is_lowest c.args.blocks.now c.args.size c.requires.some c.requires.shared

pub returns-else-end-size : goal.returns-else-end-size
returns-else-end-size c =
    sym (gap_none c.args.blocks.now c.loop-block.block-index c.loop-block.end c.args.size c.loop-block-test.false c.loop-block.invariant.low c.if-end-size.false)
    ∙ c.loop-block.invariant.same ∙ gap_is_lowest c.args.blocks.now c.args.size c.requires.some c.requires.shared
