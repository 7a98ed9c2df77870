use Rattle.std.proofs.Common.{◌<◌, length, ap, arith}
use Rattle.pool_alloc.proofs.PoolLemmas.{read_blocks}
use Rattle.pool_alloc.proofs.TakingLemmas.{last_freed, none_freed}
use Rattle.pool_alloc.proofs.pool.Pool.pages_freed.Goals as goal

pub span-requires : goal.span-requires
span-requires c =
    let l = ap length c.self.view_is in
    let inside : c.in-Some.index < length c.self.inside.pages.items = (let h = c.in-Some.ensures.inside in omega (arith, l, h)) in
    read_blocks c.self.inside.pages.items c.in-Some.index _ inside c.index-page.ensures c.self.invariant

pub returns-then-has_one : goal.returns-then-has_one
returns-then-has_one c =
    last_freed c.self.inside.pages.items c.args.self.now c.in-Some.index c.args.at c.in-Some.field-0-1 _ c.self.view_is c.in-Some.ensures.inside c.index-page.ensures c.self.invariant c.in-Some.ensures.place c.in-Some.ensures.before
    c.span.result _ c.has_one.ensures c.if-has_one.true c.span.ensures

pub returns-else-has_one : goal.returns-else-has_one
returns-else-has_one c =
    none_freed c.self.inside.pages.items c.args.self.now c.in-Some.index c.args.at c.in-Some.field-0-1 _ c.self.view_is c.in-Some.ensures.inside c.index-page.ensures c.self.invariant c.in-Some.ensures.place c.in-Some.ensures.before
    _ c.has_one.ensures c.if-has_one.false
