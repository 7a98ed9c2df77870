use Rattle.std.proofs.Common.{arith}
use Rattle.pool_alloc.proofs.PoolLemmas.{write_fits}
use Rattle.pool_alloc.proofs.pool.Pool.gap_address.Goals as goal

pub overflow_add-result : goal.overflow_add-result
overflow_add-result c =
    let fits = write_fits c.self.inside.pages.items c.args.self.now c.in-Some.index c.in-Some.offset c.rounded.result _ c.self.view_is c.in-Some.ensures.inside c.index-page.ensures c.self.invariant c.in-Some.ensures.can in
    omega (arith, fits, c.start.ensures)
