use Rattle.event_queue.proofs.Moments.{none_above}
use Rattle.event_queue.proofs.ticks.moment_above.Goals as goal

pub returns-in-None : goal.returns-in-None
returns-in-None c = none_above c.args.listed.now c.args.last c.in-None.ensures
