use Rattle.event_queue.proofs.LawLemmas.{ticks_at_moments}
use Rattle.event_queue.proofs.laws.ticks_at_moments.Goals as goal

pub returns : goal.returns
returns c = ticks_at_moments
