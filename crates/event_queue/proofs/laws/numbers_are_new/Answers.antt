use Rattle.event_queue.proofs.CallLemmas.{numbers_are_new}
use Rattle.event_queue.proofs.laws.numbers_are_new.Goals as goal

pub returns : goal.returns
returns c = numbers_are_new
