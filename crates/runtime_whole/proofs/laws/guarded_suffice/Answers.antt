use Rattle.runtime_whole.proofs.BootLemmas.{guarded}
use Rattle.runtime_whole.proofs.laws.guarded_suffice.Goals as goal

pub returns : goal.returns
returns c = guarded
