use Rattle.time_service.proofs.LawLemmas.{reads_back}
use Rattle.time_service.proofs.laws.times_read_back.Goals as goal

pub returns : goal.returns
returns c = reads_back
