use Rattle.std.proofs.Common.{true, arith}
use Rattle.guest_memory.specs.Lists.{filled}
use Rattle.image_services.proofs.MarkLemmas.{count_more, besides}
use Rattle.image_services.proofs.writing.touch_both.Goals as goal

pub touch-requires-clause-frames : goal.touch-requires-clause-frames
touch-requires-clause-frames c = omega (arith, count_more (filled c.args.memory.now.touched c.args.block 1 true) c.args.first c.args.count, c.requires.frames)

pub returns-clause-besides : goal.returns-clause-besides
returns-clause-besides c = besides c.args.memory.now _ _ c.args.block 1 c.whole.ensures c.requires.block c.in_ok-touch.ensures.ok c.touch-2.ensures.besides
