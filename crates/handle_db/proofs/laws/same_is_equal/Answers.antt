use Rattle.handle_db.proofs.LawLemmas.{same_is_equal}
use Rattle.handle_db.proofs.laws.same_is_equal.Goals as goal

pub returns : goal.returns
returns c = same_is_equal
