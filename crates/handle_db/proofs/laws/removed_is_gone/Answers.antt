use Rattle.handle_db.proofs.LawLemmas.{removed_is_gone}
use Rattle.handle_db.proofs.laws.removed_is_gone.Goals as goal

pub returns : goal.returns
returns c = removed_is_gone
