use Rattle.std.proofs.Common.{◌∙◌, sym, ap}
use Rattle.event_queue.specs.Timers.{lesser}
use Rattle.event_queue.proofs.Steps.{due_more, due_over}
use Rattle.event_queue.proofs.timers.least_due.Goals as goal

pub loop-event-preserved : goal.loop-event-preserved
loop-event-preserved c =
    sym (due_more c.args.events.now c.loop-event.event-index c.loop-event.least c.lesser-least.result _ c.loop-event-test.true (c.lesser-least.ensures ∙ ap (lesser c.loop-event.least) c.due.ensures)) ∙ c.loop-event.invariant

pub returns : goal.returns
returns c = sym (due_over c.args.events.now c.loop-event.event-index c.loop-event.least c.loop-event-test.false) ∙ c.loop-event.invariant
