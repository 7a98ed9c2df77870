use Rattle.protocol_db.proofs.LawLemmas.{installed_is_pending}
use Rattle.protocol_db.proofs.laws.installed_is_pending.Goals as goal

pub returns : goal.returns
returns c = installed_is_pending
