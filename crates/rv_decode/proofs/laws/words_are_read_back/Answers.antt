use Rattle.rv_decode.proofs.WordLemmas.{words_fit, words_decode}
use Rattle.rv_decode.proofs.laws.words_are_read_back.Goals as goal

pub returns : goal.returns
returns c = record { fit = words_fit; decode = words_decode }
