use Rattle.event_queue.proofs.LawLemmas.{queued_once}
use Rattle.event_queue.proofs.laws.queued_once.Goals as goal

pub returns : goal.returns
returns c = queued_once
