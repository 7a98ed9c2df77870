use Rattle.guest_build.proofs.DecodeLemmas.{instructions}
use Rattle.guest_build.proofs.laws.instructions_decode.Goals as goal

pub returns : goal.returns
returns c = instructions c.words_are_read_back.ensures.fit c.words_are_read_back.ensures.decode
