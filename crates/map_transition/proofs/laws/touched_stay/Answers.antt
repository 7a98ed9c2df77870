use Rattle.map_transition.proofs.LawLemmas.{instructions_keep, functions_keep}
use Rattle.map_transition.proofs.laws.touched_stay.Goals as goal

pub returns-clause-instructions : goal.returns-clause-instructions
returns-clause-instructions c = instructions_keep

pub returns-clause-functions : goal.returns-clause-functions
returns-clause-functions c = functions_keep
