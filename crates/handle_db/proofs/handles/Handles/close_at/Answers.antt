use Rattle.handle_db.specs.Database.{closed, with_opens}
use Rattle.handle_db.proofs.DatabaseLemmas.{protocols_write, opens_view, opens_is, closed_kept}
use Rattle.handle_db.proofs.handles.Handles.close_at.Goals as goal

pub invariant_of-self : goal.invariant_of-self
invariant_of-self c =
    protocols_write (with_opens c.args.guid.now (closed c.args.agent c.args.controller)) c.args.self.now c.args.handle c.args.place c.self.inside.live.items c.self.inside.made c.index_mut.result.now c.close.new.self c.self.view_is
    c.requires c.index_mut.ensures.value c.close.ensures (rw (← c.self.view_is) c.self.invariant)
    (λ all. opens_is c.args.self.now.made c.index_mut.result.now c.args.guid.now (closed c.args.agent c.args.controller) (closed_kept c.args.agent c.args.controller) all)

pub returns : goal.returns
returns c =
    opens_view (closed c.args.agent c.args.controller) c.args.guid.now c.args.self.now c.args.handle c.args.place c.self.inside.live.items c.self.inside.made c.index_mut.result.now c.close.new.self c.self.view_is
    c.requires c.index_mut.ensures.value c.close.ensures
