use Rattle.rv_step.proofs.MemoryLemmas.{stores_its_bytes}
use Rattle.rv_step.proofs.laws.stores_its_bytes.Goals as goal

pub returns : goal.returns
returns c = stores_its_bytes
