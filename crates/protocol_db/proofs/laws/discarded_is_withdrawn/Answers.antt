use Rattle.protocol_db.proofs.LawLemmas.{discarded_is_withdrawn}
use Rattle.protocol_db.proofs.laws.discarded_is_withdrawn.Goals as goal

pub returns : goal.returns
returns c = discarded_is_withdrawn c.discarded_is_gone.ensures
