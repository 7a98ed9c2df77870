use Rattle.protocol_db.proofs.LawLemmas.{all_installed_are_pending}
use Rattle.protocol_db.proofs.laws.all_installed_are_pending.Goals as goal

pub returns : goal.returns
returns c = all_installed_are_pending
