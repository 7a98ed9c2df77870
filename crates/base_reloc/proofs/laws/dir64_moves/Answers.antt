use Rattle.base_reloc.proofs.EntriesLemmas.{dir64_moves}
use Rattle.base_reloc.proofs.laws.dir64_moves.Goals as goal

pub returns : goal.returns
returns c = dir64_moves
