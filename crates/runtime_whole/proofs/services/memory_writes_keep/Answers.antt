use Rattle.runtime_whole.proofs.WriteLemmas.{memory_writes}
use Rattle.runtime_whole.proofs.services.memory_writes_keep.Goals as goal

pub returns : goal.returns
returns c = memory_writes
