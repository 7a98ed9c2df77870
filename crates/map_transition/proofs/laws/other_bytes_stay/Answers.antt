use Rattle.map_transition.proofs.LawLemmas.{other_bytes_stay}
use Rattle.map_transition.proofs.laws.other_bytes_stay.Goals as goal

pub returns : goal.returns
returns c = other_bytes_stay
