use Rattle.event_queue.proofs.Moments.{rises}
use Rattle.event_queue.proofs.ticks.is_rising.Goals as goal

pub returns : goal.returns
returns c = rises c.args.listed.now c.is_sorted.result c.is_sorted.ensures.cases
