use Rattle.event_queue.proofs.LawLemmas.{first_is_least}
use Rattle.event_queue.proofs.laws.first_is_least.Goals as goal

pub returns : goal.returns
returns c = first_is_least
