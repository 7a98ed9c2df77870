use Rattle.std.proofs.Common.{◌∙◌, sym, refl}
use Rattle.std.specs.List.{filter}
use Rattle.event_queue.specs.Queue.{is_kept, kept_calls}
use Rattle.event_queue.proofs.Steps.{falling_more, falling_over}
use Rattle.event_queue.proofs.queue.falling_calls.Goals as goal

pub loop-below-init : goal.loop-below-init
unfolding kept_calls
loop-below-init c = rw c.new-calls.ensures.items refl

pub loop-below-preserved : goal.loop-below-preserved
loop-below-preserved c =
    sym (falling_more c.loop-below.calls.items c.push_level.new.calls.items (filter (is_kept c.args.group.now) c.args.events.now) c.loop-below.below c.loop-below-test.true c.in_ok-push_level.ensures) ∙ c.loop-below.invariant

pub returns : goal.returns
returns c = sym (falling_over c.loop-below.calls.items (filter (is_kept c.args.group.now) c.args.events.now) c.loop-below.below c.loop-below-test.false) ∙ c.loop-below.invariant
