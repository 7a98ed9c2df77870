use Rattle.map_transition.proofs.LawLemmas.{words_move}
use Rattle.map_transition.proofs.laws.words_move.Goals as goal

pub returns : goal.returns
returns c = words_move
