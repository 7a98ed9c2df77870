use Rattle.handle_db.proofs.LawLemmas.{new_is_new}
use Rattle.handle_db.proofs.laws.new_is_new.Goals as goal

pub returns : goal.returns
returns c = new_is_new
