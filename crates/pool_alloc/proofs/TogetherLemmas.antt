-- A pool and its pages behind a call on pages.
use Rattle.std.proofs.Common.{[], ◌∷◌, refl}
use Rattle.page_alloc.specs.declared.page.Owner.TheVariants.{Pool}
use Rattle.page_alloc.specs.Laws.{OwnedStay}
use Rattle.pool_alloc.specs.Pool.{pages_of}
use Rattle.pool_alloc.specs.Laws.{PoolStaysTogether}
use Rattle.pool_alloc.proofs.BlockLemmas.{some_pages}

pub stays_together : OwnedStay → PoolStaysTogether
stays_together stay [] m call whole all other together = tt
stays_together stay (p ∷ ps) m call whole all other together = (
  stay m call Pool p.start (pages_of p.blocks) whole refl other (some_pages p.blocks all.0.blocks) together.0,
  stays_together stay ps m call whole all.2 other together.1,
)
