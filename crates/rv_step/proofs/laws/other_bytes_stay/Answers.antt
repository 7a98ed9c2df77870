use Rattle.rv_step.proofs.MemoryLemmas.{other_bytes_stay}
use Rattle.rv_step.proofs.laws.other_bytes_stay.Goals as goal

pub returns : goal.returns
returns c = other_bytes_stay
