use Rattle.std.proofs.Common.{◌∙◌, sym}
use Rattle.event_queue.proofs.Steps.{greatest_more, greatest_over}
use Rattle.event_queue.proofs.queue.greatest.Goals as goal

pub loop-entry-preserved : goal.loop-entry-preserved
loop-entry-preserved c = sym (greatest_more c.args.queue.now c.loop-entry.entry-index c.loop-entry.top c.max-top.result _ c.loop-entry-test.true c.max-top.ensures) ∙ c.loop-entry.invariant

pub returns : goal.returns
returns c = sym (greatest_over c.args.queue.now c.loop-entry.entry-index c.loop-entry.top c.loop-entry-test.false) ∙ c.loop-entry.invariant
