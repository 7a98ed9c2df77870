use Rattle.base_reloc.proofs.LawLemmas.{moved_by_none}
use Rattle.base_reloc.proofs.laws.no_move_changes_nothing.Goals as goal

pub returns : goal.returns
returns c = λ kind word small. moved_by_none kind word small
