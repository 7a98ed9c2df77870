use Rattle.map_transition.proofs.LawLemmas.{whole_stays}
use Rattle.map_transition.proofs.laws.whole_stays.Goals as goal

pub returns : goal.returns
returns c = whole_stays
