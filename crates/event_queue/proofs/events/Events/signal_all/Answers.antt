use Rattle.std.proofs.Common.{◌∙◌, sym}
use Rattle.event_queue.proofs.Signals.{each_here, each_over}
use Rattle.event_queue.proofs.events.Events.signal_all.Goals as goal

pub loop-event-preserved : goal.loop-event-preserved
loop-event-preserved c =
    rw c.signal_known.ensures (sym (each_here c.args.events.now c.loop-event.event-index 0 c.loop-event.self c.loop-event-test.true) ∙ c.loop-event.invariant)

pub returns : goal.returns
returns c = sym (each_over c.args.events.now c.loop-event.event-index c.loop-event.self c.loop-event-test.false) ∙ c.loop-event.invariant
