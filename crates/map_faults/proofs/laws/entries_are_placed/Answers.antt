use Rattle.map_faults.proofs.AcceptedLemmas.{placed}
use Rattle.map_faults.proofs.laws.entries_are_placed.Goals as goal

pub returns : goal.returns
returns c = placed
