use Rattle.event_queue.proofs.LawLemmas.{next_is_greatest}
use Rattle.event_queue.proofs.laws.next_is_greatest.Goals as goal

pub returns : goal.returns
returns c = next_is_greatest
