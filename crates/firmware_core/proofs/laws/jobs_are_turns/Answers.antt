use Rattle.firmware_core.proofs.JobLemmas.{jobs_are_turns}
use Rattle.firmware_core.proofs.laws.jobs_are_turns.Goals as goal

pub returns : goal.returns
returns c = jobs_are_turns c.ticks_once.ensures
