use Rattle.time_service.proofs.ReadLemmas.{written, only}
use Rattle.time_service.proofs.laws.texts_set_clocks.Goals as goal

pub returns : goal.returns
returns c = record { written = written; only = only }
