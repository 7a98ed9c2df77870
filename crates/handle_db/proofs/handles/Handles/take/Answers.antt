use Rattle.std.proofs.Common.{sym, ◌∙◌, rules, get_or}
use Rattle.std.specs.List.{list_all}
use Rattle.std.proofs.lemmas.Fn.{filter_same}
use Rattle.handle_db.specs.Database.{has_guid, all_but}
use Rattle.handle_db.proofs.ListLemmas.{all_gone, some_left as some_stay}
use Rattle.handle_db.proofs.DatabaseLemmas.{gone_write, gone_view, protocols_write, protocols_view, less_is, test_same, test_there, left_some, left_none}
use Rattle.handle_db.proofs.handles.Handles.take.Goals as goal

pub invariant_of-self : goal.invariant_of-self
invariant_of-self c =
    gone_write c.args.self.now c.args.handle c.self.inside.live.items _ c.self.inside.made c.self.view_is (filter_same _ _ _ (λ x b f' k. search rules) _ _ c.retain.ensures.filtered) (rw (← c.self.view_is) c.self.invariant)

pub invariant_of-self-else-has_only : goal.invariant_of-self-else-has_only
invariant_of-self-else-has_only c =
    protocols_write (all_but c.args.guid.now) c.args.self.now c.args.handle c.args.place c.self.inside.live.items c.self.inside.made c.index_mut.result.now c.remove.new.self c.self.view_is
    c.requires c.index_mut.ensures.value c.remove.ensures (rw (← c.self.view_is) c.self.invariant)
    (λ all. less_is c.args.self.now.made c.index_mut.result.now c.args.guid.now all
    (test_same (λ h. list_all (has_guid c.args.guid.now) h.protocols) c.args.self.now c.args.handle c.args.place c.self.inside.live.items c.self.inside.made c.index.result.now c.index_mut.result.now _ _ c.self.view_is c.requires c.index.ensures c.index_mut.ensures.value c.has_only.ensures c.if-has_only.false))

pub returns-then-has_only : goal.returns-then-has_only
returns-then-has_only c = λ z.
    let all = test_there (λ h. list_all (has_guid c.args.guid.now) h.protocols) c.args.self.now c.args.handle c.args.place c.self.inside.live.items c.self.inside.made c.index.result.now z _ _ c.self.view_is c.requires c.index.ensures c.has_only.ensures c.if-has_only.true in
    gone_view c.args.self.now c.args.handle c.self.inside.live.items _ c.self.inside.made c.self.view_is (filter_same _ _ _ (λ x b f' k. search rules) _ _ c.retain.ensures.filtered)
    ∙ sym (left_none c.args.self.now c.args.handle _ (all_gone (has_guid c.args.guid.now) (get_or c.args.self.now.live c.args.place z).protocols all))

pub returns-else-has_only : goal.returns-else-has_only
returns-else-has_only c = λ z.
    let some = test_there (λ h. list_all (has_guid c.args.guid.now) h.protocols) c.args.self.now c.args.handle c.args.place c.self.inside.live.items c.self.inside.made c.index.result.now z _ _ c.self.view_is c.requires c.index.ensures c.has_only.ensures c.if-has_only.false in
    protocols_view (all_but c.args.guid.now) c.args.self.now c.args.handle c.args.place c.self.inside.live.items c.self.inside.made c.index_mut.result.now c.remove.new.self c.self.view_is c.requires c.index_mut.ensures.value c.remove.ensures z
    ∙ sym (left_some c.args.self.now c.args.handle _ (some_stay (has_guid c.args.guid.now) (get_or c.args.self.now.live c.args.place z).protocols some))
