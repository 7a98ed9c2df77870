use Rattle.image_dump.proofs.LawLemmas as lemmas
use Rattle.image_dump.proofs.laws.instructions_decode.Goals as goal

pub returns : goal.returns
returns c = lemmas.instructions_decode c.length_is_of_the_low_bits.ensures
