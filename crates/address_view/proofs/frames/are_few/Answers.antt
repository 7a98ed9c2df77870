use Rattle.std.proofs.Common.{arith}
use Rattle.address_view.proofs.FrameLemmas.{few_more}
use Rattle.address_view.proofs.frames.are_few.Goals as goal

pub loop-range-preserved : goal.loop-range-preserved
loop-range-preserved c = λ h. c.loop-range.invariant (few_more c.args.ranges.now _ c.loop-range.range-index c.loop-range.left c.loop-range-test.true h (omega arith))
