use Rattle.memory_services.proofs.PageLemmas.{given_together}
use Rattle.memory_services.proofs.page.take_pages.Goals as goal

pub returns-in-Ok-clause-together : goal.returns-in-Ok-clause-together
returns-in-Ok-clause-together c = given_together c.pool_stays_together.ensures _ _ _ _ _ _ _ _ c.allocate.ensures.answer c.allocate.ensures.map c.whole.ensures
