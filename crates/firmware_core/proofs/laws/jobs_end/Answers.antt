use Rattle.firmware_core.proofs.RunLemmas.{jobs_end}
use Rattle.firmware_core.proofs.laws.jobs_end.Goals as goal

pub returns : goal.returns
returns c = jobs_end c.ticks_once.ensures
