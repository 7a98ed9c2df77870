use Rattle.event_queue.proofs.CallLemmas.{ticks_once}
use Rattle.event_queue.proofs.laws.ticks_once.Goals as goal

pub returns : goal.returns
returns c = ticks_once
