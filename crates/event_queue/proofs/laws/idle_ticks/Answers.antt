use Rattle.event_queue.proofs.LawLemmas.{idle_ticks}
use Rattle.event_queue.proofs.laws.idle_ticks.Goals as goal

pub returns : goal.returns
returns c = idle_ticks
