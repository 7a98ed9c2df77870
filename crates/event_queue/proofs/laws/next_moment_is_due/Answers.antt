use Rattle.event_queue.proofs.LawLemmas.{next_moment_is_due}
use Rattle.event_queue.proofs.laws.next_moment_is_due.Goals as goal

pub returns : goal.returns
returns c = next_moment_is_due
