use Rattle.event_queue.proofs.CallLemmas.{next_is_above}
use Rattle.event_queue.proofs.laws.next_is_above.Goals as goal

pub returns : goal.returns
returns c = next_is_above
