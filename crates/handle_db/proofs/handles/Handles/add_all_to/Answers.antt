use Rattle.std.proofs.Common.{refl, sym, ◌∙◌}
use Rattle.handle_db.proofs.AllLemmas.{on_none, on_written, on_written_is, on_kept_is, on_refused}
use Rattle.handle_db.proofs.handles.Handles.add_all_to.Goals as goal
use Rattle.handle_db.proofs.handles.Handles.add_all_to.Goals.{in-Ok, in-Err}

pub returns-in_default : goal.returns-in_default
returns-in_default c = (on_none c.args.self.now c.args.handle c.args.pairs.now c.in_default.ensures.none c.requires, refl)

pub invariant_of-self : goal.invariant_of-self
invariant_of-self c =
    let place = sym c.place.ensures.place ∙ c.in-Some.is in
    elim c.match-add_all.branch [
      | in-Ok w ↦ on_written_is c.args.self.now c.args.handle c.in-Some.place c.args.pairs.now c.self.inside.live.items c.self.inside.made c.index_mut.result.now c.add_all.new.self c.self.view_is place c.index_mut.ensures.value c.add_all.ensures.number w.in-Ok.ensures.gives c.self.invariant
      | in-Err w ↦ on_kept_is c.args.self.now c.args.handle c.in-Some.place c.self.inside.live.items c.self.inside.made c.index_mut.result.now c.add_all.new.self c.self.view_is place c.index_mut.ensures.value c.add_all.ensures.number w.in-Err.ensures.none c.self.invariant
    ]

pub returns : goal.returns
returns c =
    let place = sym c.place.ensures.place ∙ c.in-Some.is in
    elim c.match-add_all.branch [
      | in-Ok w ↦ rw w.result-is (on_written c.args.self.now c.args.handle c.in-Some.place c.args.pairs.now c.self.inside.live.items c.self.inside.made c.index_mut.result.now c.add_all.new.self c.self.view_is place c.index_mut.ensures.value c.add_all.ensures.number w.in-Ok.ensures.gives)
      | in-Err w ↦ rw w.result-is (on_refused c.args.self.now c.args.handle c.in-Some.place c.args.pairs.now c.self.inside.live.items c.self.inside.made c.index_mut.result.now c.add_all.new.self w.in-Err.refusal c.self.view_is place c.index_mut.ensures.value c.add_all.ensures.number w.in-Err.ensures.none w.in-Err.ensures.gives)
    ]
