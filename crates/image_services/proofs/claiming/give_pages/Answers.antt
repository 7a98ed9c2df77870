use Rattle.image_services.proofs.BlockLemmas.{given_even}
use Rattle.image_services.proofs.PageLemmas.{given_together}
use Rattle.image_services.proofs.claiming.give_pages.Goals as goal

pub returns-in-Ok-clause-even : goal.returns-in-Ok-clause-even
returns-in-Ok-clause-even c = given_even c.given_are_owned.ensures _ _ _ _ _ _ c.whole.ensures c.in-Ok.ensures.answer

pub returns-in-Ok-clause-together : goal.returns-in-Ok-clause-together
returns-in-Ok-clause-together c = given_together c.pool_stays_together.ensures _ _ _ _ _ _ _ c.allocate.ensures.answer c.allocate.ensures.map c.whole.ensures
