use Rattle.std.proofs.Common.{ap}
use Rattle.pool_alloc.specs.Pool.{BlockPage}
use Rattle.pool_alloc.proofs.SkipLemmas.{put_there}
use Rattle.pool_alloc.proofs.page.PoolPage.put.Goals as goal

pub longest_gap-self-inside-requires : goal.longest_gap-self-inside-requires
longest_gap-self-inside-requires c =
    put_there c.args.self.now.blocks c.self.inside.blocks.items _ _ _ c.place_of-place.result c.args.offset c.args.size (ap (λ (p : BlockPage). p.blocks) c.self.view_is) c.as_slice.ensures.value c.place_of-place.ensures.place
    c.in_ok-insert.ensures.items c.as_slice-2.ensures.value c.requires
