use Rattle.image_services.proofs.PageLemmas.{freed_together}
use Rattle.image_services.proofs.unload.free_pages.Goals as goal

pub returns-in-Ok-clause-together : goal.returns-in-Ok-clause-together
returns-in-Ok-clause-together c = freed_together c.pool_stays_together.ensures _ _ _ _ _ c.free.ensures.answer c.free.ensures.map c.whole.ensures
