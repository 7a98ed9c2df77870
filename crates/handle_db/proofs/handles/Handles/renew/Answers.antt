use Rattle.std.proofs.Common.{◌++◌, ◌∷◌, [], List}
use Rattle.handle_db.specs.Database.{Protocol, all_but, fresh}
use Rattle.handle_db.proofs.DatabaseLemmas.{protocols_write, protocols_view, renewed_is}
use Rattle.handle_db.proofs.handles.Handles.renew.Goals as goal

pub invariant_of-self : goal.invariant_of-self
invariant_of-self c =
    protocols_write (λ (ps : List Protocol). all_but c.args.guid.now ps ++ fresh c.args.guid.now c.args.interface ∷ []) c.args.self.now c.args.handle c.args.place c.self.inside.live.items c.self.inside.made c.index_mut.result.now c.renew.new.self c.self.view_is
    c.requires.place c.index_mut.ensures.value c.renew.ensures (rw (← c.self.view_is) c.self.invariant)
    (λ all. renewed_is c.args.self.now.made c.index_mut.result.now c.args.guid.now c.args.interface all)

pub returns : goal.returns
returns c = λ z.
    protocols_view (λ (ps : List Protocol). all_but c.args.guid.now ps ++ fresh c.args.guid.now c.args.interface ∷ []) c.args.self.now c.args.handle c.args.place c.self.inside.live.items c.self.inside.made c.index_mut.result.now c.renew.new.self c.self.view_is
    c.requires.place c.index_mut.ensures.value c.renew.ensures z
