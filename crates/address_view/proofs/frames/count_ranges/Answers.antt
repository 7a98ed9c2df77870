use Rattle.std.proofs.Common.{◌∙◌}
use Rattle.address_view.specs.Windows.{see}
use Rattle.address_view.proofs.FrameLemmas.{ranges_next}
use Rattle.address_view.proofs.StoreLaws.{all_seen}
use Rattle.address_view.proofs.frames.count_ranges.Goals as goal

pub count_marks-count-requires-clause-allowed : goal.count_marks-count-requires-clause-allowed
count_marks-count-requires-clause-allowed c = all_seen (see c.args.view.now) c.args.memory.now _ _ (c.requires.seen c.loop-range.range-index _ c.loop-range-test.true)

pub loop-range-preserved : goal.loop-range-preserved
loop-range-preserved c = record {
  rest = ranges_next (see c.args.view.now) c.args.memory.now.base c.loop-range.marks _ c.args.ranges.now _ c.loop-range.range-index c.loop-range-test.true c.count_marks-count.ensures.marks ∙ c.loop-range.invariant.rest;
  long = c.count_marks-count.ensures.long;
  count = c.count_marks-count.ensures.count;
}
