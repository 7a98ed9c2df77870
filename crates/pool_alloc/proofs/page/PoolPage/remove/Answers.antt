use Rattle.std.proofs.Common.{ap}
use Rattle.pool_alloc.specs.Pool.{BlockPage}
use Rattle.pool_alloc.proofs.SkipLemmas.{left_there}
use Rattle.pool_alloc.proofs.page.PoolPage.remove.Goals as goal

pub longest_gap-self-inside-requires : goal.longest_gap-self-inside-requires
longest_gap-self-inside-requires c =
    left_there c.args.self.now.blocks c.self.inside.blocks.items _ _ c.args.place (ap (λ (p : BlockPage). p.blocks) c.self.view_is) c.remove-block.ensures.items c.as_slice.ensures.value c.requires.blocks c.requires.place
