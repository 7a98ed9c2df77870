use Rattle.std.proofs.Common.{◌∙◌, sym}
use Rattle.event_queue.proofs.Wholes.{unqueue_some, unqueue_none}
use Rattle.event_queue.proofs.queue.unqueue.Goals as goal

pub returns-in-Some-clause-items : goal.returns-in-Some-clause-items
returns-in-Some-clause-items c =
    c.remove.ensures.items ∙ unqueue_some c.args.queue.now.items c.as_slice.result.now c.args.event c.in-Some.place c.as_slice.ensures.value (sym c.in-Some.is ∙ c.queued_at.ensures) c.requires

pub returns-in_default-clause-items : goal.returns-in_default-clause-items
returns-in_default-clause-items c = unqueue_none c.args.queue.now.items c.as_slice.result.now c.args.event c.as_slice.ensures.value (sym c.in_default.is ∙ c.queued_at.ensures)
