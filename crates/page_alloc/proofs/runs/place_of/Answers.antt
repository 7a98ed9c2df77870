use Rattle.std.proofs.Common.{arith}
use Rattle.page_alloc.specs.Runs.{all_pages}
use Rattle.page_alloc.proofs.RunLemmas.{left_more}
use Rattle.page_alloc.proofs.runs.place_of.Goals as goal

pub loop-place-init : goal.loop-place-init
unfolding all_pages
loop-place-init c = omega arith

pub loop-place-preserved : goal.loop-place-preserved
loop-place-preserved c =
    left_more c.args.runs.now c.loop-place.place c.loop-place.left c.from-left.result c.args.index _ c.loop-place-test.true c.from-left.ensures (omega arith) c.loop-place.invariant
