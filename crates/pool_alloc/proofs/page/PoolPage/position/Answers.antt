use Rattle.std.proofs.Common.{ap, arith, inl, inr}
use Rattle.pool_alloc.specs.Pool.{BlockPage}
use Rattle.pool_alloc.proofs.SkipLemmas.{elsewhere}
use Rattle.pool_alloc.proofs.page.PoolPage.position.Goals as goal

pub returns-then-at-start : goal.returns-then-at-start
returns-then-at-start c =
    let same = ap (λ (p : BlockPage). p.start) c.self.view_is in
    elsewhere c.args.self.now c.args.at c.requires (inl (let before = c.if-at-start.true in omega (arith, same, before)))

pub returns-then-at-start-ge-PAGE : goal.returns-then-at-start-ge-PAGE
returns-then-at-start-ge-PAGE c =
    let same = ap (λ (p : BlockPage). p.start) c.self.view_is in
    elsewhere c.args.self.now c.args.at c.requires (inr (let behind = c.if-at-start-ge-PAGE.true in omega (arith, same, behind)))
