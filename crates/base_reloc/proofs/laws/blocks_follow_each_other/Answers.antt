use Rattle.base_reloc.proofs.LawLemmas.{blocks_follow}
use Rattle.base_reloc.proofs.laws.blocks_follow_each_other.Goals as goal

pub returns : goal.returns
returns c = λ table at block. blocks_follow table at block
