use Rattle.pool_alloc.proofs.NewPageLemmas.{add_few, added_in, added_pool, added_together}
use Rattle.pool_alloc.proofs.pool.Pool.add.Goals as goal

pub rounded-requires : goal.rounded-requires
rounded-requires c = add_few c.given_are_owned.ensures c.args.map.now c.args.memory_type c.args.size _ _ c.in-Ok.start c.whole.ensures c.max.ensures c.pages_for.ensures c.in-Ok.ensures.answer

pub invariant_of-self-in-Ok : goal.invariant_of-self-in-Ok
invariant_of-self-in-Ok c =
    added_pool c.given_are_owned.ensures c.args.map.now c.args.memory_type c.args.size _ _ c.in-Ok.start c.whole.ensures c.max.ensures c.pages_for.ensures c.in-Ok.ensures.answer
    c.self.inside.pages.items c.args.self.now _ _ _ _ c.self.view_is c.in_ok-reserve.ensures.items c.push_reserved.ensures.items c.new-page.ensures c.rounded.ensures c.self.invariant c.requires.together

pub returns-in-Ok-clause-together : goal.returns-in-Ok-clause-together
returns-in-Ok-clause-together c =
    added_together c.given_are_owned.ensures c.args.map.now c.args.memory_type c.args.size _ _ c.in-Ok.start c.whole.ensures c.max.ensures c.pages_for.ensures c.in-Ok.ensures.answer c.owned_stay.ensures
    c.self.inside.pages.items c.args.self.now _ _ _ _ _ c.self.view_is c.in_ok-reserve.ensures.items c.push_reserved.ensures.items c.new-page.ensures c.rounded.ensures c.self.invariant c.requires.together c.in-Ok.ensures.map

pub returns-in-Ok-clause-block : goal.returns-in-Ok-clause-block
returns-in-Ok-clause-block c = added_in c.given_are_owned.ensures c.args.map.now c.args.memory_type c.args.size _ _ c.in-Ok.start c.whole.ensures c.max.ensures c.pages_for.ensures c.in-Ok.ensures.answer
