use Rattle.runtime_whole.proofs.TurnLemmas.{stores_keep, instructions_keep}
use Rattle.runtime_whole.proofs.laws.instructions_keep.Goals as goal

pub returns-clause-stores : goal.returns-clause-stores
returns-clause-stores c = stores_keep

pub returns-clause-instructions : goal.returns-clause-instructions
returns-clause-instructions c = instructions_keep c.touched_stay.ensures.instructions
