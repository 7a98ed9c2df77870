use Rattle.rv_decode.proofs.RowLawLemmas.{length_is}
use Rattle.rv_decode.proofs.laws.length_is_of_the_low_bits.Goals as goal

pub returns : goal.returns
returns c = length_is
