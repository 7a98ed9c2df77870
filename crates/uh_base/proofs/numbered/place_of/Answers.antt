use Rattle.std.proofs.Common.{rules, sym}
use Rattle.std.proofs.lemmas.List.Sorted.{answers_always}
use Rattle.uh_base.proofs.SearchLemmas.{search_some, search_none}
use Rattle.uh_base.proofs.numbered.place_of.Goals as goal

-- the closure gives an item's number
pub returns-in-Ok : goal.returns-in-Ok
returns-in-Ok g c =
    sym (search_some g.T.Numbered.number c.args.number c.in-Ok.place c.args.items.now c.requires c.in-Ok.ensures.bound
    (c.in-Ok.ensures.position g.T.Numbered.number (answers_always _ _ _ (λ f a r g called. search rules))))

pub returns-in-Err : goal.returns-in-Err
returns-in-Err g c =
    sym (search_none g.T.Numbered.number c.args.number c.in-Err.field-0 c.args.items.now c.requires
    (c.in-Err.ensures.position g.T.Numbered.number (answers_always _ _ _ (λ f a r g called. search rules))))
