use Rattle.std.proofs.Common.{◌<◌, length, ap, arith, refl}
use Rattle.pool_alloc.proofs.PoolLemmas.{can_there, write_fits, write_pool, write_together}
use Rattle.pool_alloc.proofs.RamLemmas.{put_in}
use Rattle.pool_alloc.proofs.pool.Pool.put.Goals as goal

pub overflow_add-at : goal.overflow_add-at
overflow_add-at c =
    let fits = write_fits c.self.inside.pages.items c.args.self.now c.args.index c.args.offset c.args.size _ c.self.view_is c.requires.inside c.index_mut-page.ensures.value c.self.invariant c.requires.can in
    omega (arith, fits, c.start.ensures)

pub put-requires : goal.put-requires
put-requires c =
    let l = ap length c.self.view_is in
    let inside : c.args.index < length c.self.inside.pages.items = (let h = c.requires.inside in omega (arith, l, h)) in
    can_there c.self.inside.pages.items c.args.self.now c.args.index c.args.offset c.args.size _ c.self.view_is inside c.index_mut-page.ensures.value c.requires.can

pub invariant_of-self-2 : goal.invariant_of-self-2
invariant_of-self-2 c =
    write_pool c.self.inside.pages.items c.args.self.now c.args.index c.args.offset c.args.size _ _ c.self.view_is c.requires.inside c.index_mut-page.ensures.value c.self.invariant c.requires.can c.in_ok-put.ensures.ok

pub returns-clause-together : goal.returns-clause-together
returns-clause-together c = λ m together.
    write_together c.self.inside.pages.items c.args.self.now m c.args.index c.args.offset c.args.size _ _ c.self.view_is c.requires.inside c.index_mut-page.ensures.value c.requires.can c.in_ok-put.ensures.ok together

pub returns-clause-block : goal.returns-clause-block
returns-clause-block c = λ m whole together.
    put_in c.self.inside.pages.items c.args.self.now m c.args.index c.args.offset c.args.size c.start.result _ _ c.self.view_is c.requires.inside c.index_mut-page.ensures.value c.self.invariant c.requires.can c.start.ensures refl whole together
