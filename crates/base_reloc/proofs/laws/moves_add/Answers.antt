use Rattle.base_reloc.proofs.LawLemmas.{moved_twice}
use Rattle.base_reloc.proofs.laws.moves_add.Goals as goal

pub returns : goal.returns
returns c = λ kind word one other moved twice small pages first second. moved_twice kind word one other moved twice small pages first second
