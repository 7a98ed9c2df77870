use Rattle.runtime_whole.proofs.TurnLemmas.{stores_whole, instructions_whole, turns_whole}
use Rattle.runtime_whole.proofs.laws.turns_stay_whole.Goals as goal

pub returns-clause-stores : goal.returns-clause-stores
returns-clause-stores c = stores_whole c.whole_stays.ensures

pub returns-clause-instructions : goal.returns-clause-instructions
returns-clause-instructions c = instructions_whole c.whole_stays.ensures c.touched_stay.ensures.instructions

pub returns-clause-turns : goal.returns-clause-turns
returns-clause-turns c = turns_whole c.whole_stays.ensures c.touched_stay.ensures.instructions
