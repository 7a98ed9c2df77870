use Rattle.std.proofs.Common.{sym, ◌∙◌, ◌++◌, ◌∷◌, [], List, get_or}
use Rattle.std.specs.List.{list_any}
use Rattle.handle_db.specs.Database.{Protocol, has_guid, fresh}
use Rattle.handle_db.proofs.DatabaseLemmas.{protocols_write, protocols_view, added_is, test_same, test_there, installed_there}
use Rattle.handle_db.proofs.handles.Handles.add_to.Goals as goal

pub invariant_of-self-2 : goal.invariant_of-self-2
invariant_of-self-2 c =
    let place = sym c.place.ensures.place ∙ c.in-Some.is in
    protocols_write (λ (ps : List Protocol). ps ++ fresh c.args.guid c.args.interface ∷ []) c.args.self.now c.args.handle c.in-Some.place c.self.inside.live.items c.self.inside.made c.index_mut.result.now c.add.new.self c.self.view_is
    place c.index_mut.ensures.value c.in_ok-add.ensures.ok (rw (← c.self.view_is) c.self.invariant)
    (λ all. added_is c.args.self.now.made c.index_mut.result.now c.args.guid c.args.interface all
    (test_same (λ h. list_any (has_guid c.args.guid) h.protocols) c.args.self.now c.args.handle c.in-Some.place c.self.inside.live.items c.self.inside.made c.index.result.now c.index_mut.result.now _ _ c.self.view_is place c.index.ensures c.index_mut.ensures.value c.has.ensures c.if-has.false))

pub returns : goal.returns
returns c =
    let place = sym c.place.ensures.place ∙ c.in-Some.is in
    installed_there c.args.self.now _ c.args.handle c.in-Some.place c.args.guid c.args.interface (get_or c.args.self.now.live c.in-Some.place c.index.result.now) (c.in-Some.ensures.some c.index.result.now)
    (test_there (λ h. list_any (has_guid c.args.guid) h.protocols) c.args.self.now c.args.handle c.in-Some.place c.self.inside.live.items c.self.inside.made c.index.result.now c.index.result.now _ _ c.self.view_is place c.index.ensures c.has.ensures c.if-has.false)
    (protocols_view (λ (ps : List Protocol). ps ++ fresh c.args.guid c.args.interface ∷ []) c.args.self.now c.args.handle c.in-Some.place c.self.inside.live.items c.self.inside.made c.index_mut.result.now c.add.new.self c.self.view_is
    place c.index_mut.ensures.value c.in_ok-add.ensures.ok c.index.result.now)
