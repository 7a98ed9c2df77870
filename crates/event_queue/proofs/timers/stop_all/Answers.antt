use Rattle.event_queue.specs.Timers.{stopped}
use Rattle.event_queue.proofs.Steps.{mapped_more}
use Rattle.event_queue.proofs.timers.stop_all.Goals as goal

pub loop-event-preserved : goal.loop-event-preserved
loop-event-preserved c =
    mapped_more stopped c.args.events.now c.loop-event.event-items c.loop-event.event-index _ c.stopped.result c.loop-event-test.true c.loop-event.auto.event-items c.loop-event.invariant c.stopped.ensures
