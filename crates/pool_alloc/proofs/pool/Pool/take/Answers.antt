use Rattle.std.proofs.Common.{◌<◌, length, arith, ap}
use Rattle.pool_alloc.proofs.PoolLemmas.{read_blocks}
use Rattle.pool_alloc.proofs.TakingLemmas.{kept, kept_is_pool, kept_is_together, gone, gone_is_pool, gone_frees, some_left, none_left}
use Rattle.pool_alloc.proofs.pool.Pool.take.Goals as goal

pub span-freed-requires : goal.span-freed-requires
span-freed-requires c =
    let l = ap length c.self.view_is in
    let inside : c.in-Some.index < length c.self.inside.pages.items = (let h = c.in-Some.ensures.inside in omega (arith, l, h)) in
    read_blocks c.self.inside.pages.items c.in-Some.index _ inside c.index_mut-page.ensures.value c.self.invariant

pub remove-size-requires-clause-blocks : goal.remove-size-requires-clause-blocks
remove-size-requires-clause-blocks c =
    let l = ap length c.self.view_is in
    let inside : c.in-Some.index < length c.self.inside.pages.items = (let h = c.in-Some.ensures.inside in omega (arith, l, h)) in
    read_blocks c.self.inside.pages.items c.in-Some.index _ inside c.index_mut-page.ensures.value c.self.invariant

pub invariant_of-self : goal.invariant_of-self
invariant_of-self c =
    kept_is_pool c.self.inside.pages.items c.args.self.now c.in-Some.index c.args.at c.in-Some.place _ _ c.self.view_is c.in-Some.ensures.inside c.index_mut-page.ensures.value c.self.invariant c.in-Some.ensures.place c.in-Some.ensures.before c.remove-size.ensures.page
    (some_left _ _ c.is_empty.ensures c.if-not-is_empty.true)

pub returns-then-not-is_empty-clause-gives : goal.returns-then-not-is_empty-clause-gives
returns-then-not-is_empty-clause-gives c =
    kept c.self.inside.pages.items c.args.self.now c.in-Some.index c.args.at c.in-Some.place _ _ c.self.view_is c.in-Some.ensures.inside c.index_mut-page.ensures.value c.self.invariant c.in-Some.ensures.place c.in-Some.ensures.before c.remove-size.ensures.page
    c.remove-size.result (some_left _ _ c.is_empty.ensures c.if-not-is_empty.true) c.remove-size.ensures.size

pub returns-then-not-is_empty-clause-can : goal.returns-then-not-is_empty-clause-can
returns-then-not-is_empty-clause-can c = λ m whole together.
    kept_is_together c.self.inside.pages.items c.args.self.now c.in-Some.index c.args.at c.in-Some.place _ _ c.self.view_is c.in-Some.ensures.inside c.index_mut-page.ensures.value c.self.invariant c.in-Some.ensures.place c.in-Some.ensures.before c.remove-size.ensures.page
    m (some_left _ _ c.is_empty.ensures c.if-not-is_empty.true) together

pub invariant_of-self-2 : goal.invariant_of-self-2
invariant_of-self-2 c =
    gone_is_pool c.self.inside.pages.items c.args.self.now c.in-Some.index c.args.at c.in-Some.place _ _ c.self.view_is c.in-Some.ensures.inside c.index_mut-page.ensures.value c.self.invariant c.in-Some.ensures.place c.in-Some.ensures.before c.remove-size.ensures.page
    _ c.remove.ensures.items

pub returns-clause-gives : goal.returns-clause-gives
returns-clause-gives c =
    gone c.self.inside.pages.items c.args.self.now c.in-Some.index c.args.at c.in-Some.place _ _ c.self.view_is c.in-Some.ensures.inside c.index_mut-page.ensures.value c.self.invariant c.in-Some.ensures.place c.in-Some.ensures.before c.remove-size.ensures.page
    _ c.remove-size.result _ (none_left _ _ c.is_empty.ensures c.if-not-is_empty.false) c.remove-size.ensures.size c.remove.ensures.items c.span-freed.ensures

pub returns-clause-can : goal.returns-clause-can
returns-clause-can c = λ m whole together.
    gone_frees c.self.inside.pages.items c.args.self.now c.in-Some.index c.args.at c.in-Some.place _ _ c.self.view_is c.in-Some.ensures.inside c.index_mut-page.ensures.value c.self.invariant c.in-Some.ensures.place c.in-Some.ensures.before c.remove-size.ensures.page
    c.owned_are_freed.ensures _ m _ c.remove.ensures.items c.span-freed.ensures whole together
