use Rattle.handle_db.proofs.LawLemmas.{discard_leaves_others}
use Rattle.handle_db.proofs.laws.discard_leaves_others.Goals as goal

pub returns : goal.returns
returns c = discard_leaves_others
