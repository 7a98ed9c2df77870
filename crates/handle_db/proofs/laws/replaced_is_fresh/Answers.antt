use Rattle.handle_db.proofs.LawLemmas.{replaced_is_fresh}
use Rattle.handle_db.proofs.laws.replaced_is_fresh.Goals as goal

pub returns : goal.returns
returns c = replaced_is_fresh
