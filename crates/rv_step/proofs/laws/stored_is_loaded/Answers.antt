use Rattle.rv_step.proofs.MemoryLemmas.{stored_is_loaded}
use Rattle.rv_step.proofs.laws.stored_is_loaded.Goals as goal

pub returns : goal.returns
returns c = stored_is_loaded
