use Rattle.std.proofs.Common.{◌∙◌, sym, refl, subst}
use Rattle.pool_alloc.specs.Calls.{BlockInRam}
use Rattle.pool_alloc.proofs.PlacedLemmas.{placed_gives, no_pages}
use Rattle.pool_alloc.proofs.pool.Pool.allocate.Goals as goal

pub returns-in-Ok-clause-gives : goal.returns-in-Ok-clause-gives
returns-in-Ok-clause-gives c =
    placed_gives c.args.self.now c.put.new.self c.args.map.now c.args.memory_type c.args.size _ c.in-Some.index c.in-Some.offset c.in-Ok.at (sym c.may_be_given.ensures ∙ c.if-not-may_be_given.false) c.if-size-gt-LARGEST.false c.rounded-rounded_size.ensures
    c.in-Some.ensures.some c.in-Ok.ensures.at c.in-Ok.ensures.ok

pub returns-in-Ok-clause-pages : goal.returns-in-Ok-clause-pages
returns-in-Ok-clause-pages c =
    rw (no_pages c.args.self.now c.args.map.now c.args.memory_type c.args.size _ c.in-Some.index c.in-Some.offset (sym c.may_be_given.ensures ∙ c.if-not-may_be_given.false) c.if-size-gt-LARGEST.false c.rounded-rounded_size.ensures c.in-Some.ensures.some) refl

pub returns-in-Ok-clause-inside : goal.returns-in-Ok-clause-inside
returns-in-Ok-clause-inside c =
    rw (no_pages c.args.self.now c.args.map.now c.args.memory_type c.args.size _ c.in-Some.index c.in-Some.offset (sym c.may_be_given.ensures ∙ c.if-not-may_be_given.false) c.if-size-gt-LARGEST.false c.rounded-rounded_size.ensures c.in-Some.ensures.some) tt

pub returns-in-Ok-clause-block : goal.returns-in-Ok-clause-block
returns-in-Ok-clause-block c =
    subst (λ n. BlockInRam c.in-Ok.at n c.args.map.now) c.rounded-rounded_size.ensures (c.in-Ok.ensures.block c.args.map.now c.whole.ensures c.requires)
