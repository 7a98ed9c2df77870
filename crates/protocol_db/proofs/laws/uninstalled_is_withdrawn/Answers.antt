use Rattle.protocol_db.proofs.LawLemmas.{uninstalled_is_withdrawn}
use Rattle.protocol_db.proofs.laws.uninstalled_is_withdrawn.Goals as goal

pub returns : goal.returns
returns c = uninstalled_is_withdrawn c.removed_is_gone.ensures
