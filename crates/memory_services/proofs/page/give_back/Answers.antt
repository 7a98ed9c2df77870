use Rattle.memory_services.proofs.PageLemmas.{some_freed, freed_together}
use Rattle.memory_services.proofs.page.give_back.Goals as goal

pub returns-clause-some : goal.returns-clause-some
returns-clause-some c = some_freed _ _ _ _ _ c.free.ensures.answer

pub returns-clause-together : goal.returns-clause-together
returns-clause-together c = freed_together c.pool_stays_together.ensures _ _ _ _ _ c.free.ensures.answer c.free.ensures.map c.whole.ensures
