use Rattle.runtime_whole.proofs.BootLemmas.{writes}
use Rattle.runtime_whole.proofs.laws.writes_keep.Goals as goal

pub returns : goal.returns
returns c = writes
