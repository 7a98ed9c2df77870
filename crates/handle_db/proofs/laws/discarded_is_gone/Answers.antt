use Rattle.handle_db.proofs.LawLemmas.{discarded_is_gone}
use Rattle.handle_db.proofs.laws.discarded_is_gone.Goals as goal

pub returns : goal.returns
returns c = discarded_is_gone
