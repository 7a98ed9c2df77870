use Rattle.protocol_db.proofs.LawLemmas.{reinstalled_is_fresh}
use Rattle.protocol_db.proofs.laws.reinstalled_is_fresh.Goals as goal

pub returns : goal.returns
returns c = reinstalled_is_fresh c.replaced_is_fresh.ensures
