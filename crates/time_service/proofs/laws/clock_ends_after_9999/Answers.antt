use Rattle.time_service.proofs.LawLemmas.{ends_after_9999}
use Rattle.time_service.proofs.laws.clock_ends_after_9999.Goals as goal

pub returns : goal.returns
returns c = ends_after_9999
