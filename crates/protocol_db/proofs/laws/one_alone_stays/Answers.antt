use Rattle.protocol_db.proofs.AloneLemmas.{one_alone_stays}
use Rattle.protocol_db.proofs.laws.one_alone_stays.Goals as goal

pub returns : goal.returns
returns c = one_alone_stays
