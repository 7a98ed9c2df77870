use Rattle.handle_db.specs.Database.{noted, with_opens}
use Rattle.handle_db.proofs.DatabaseLemmas.{protocols_write, opens_view, opens_is, noted_kept}
use Rattle.handle_db.proofs.handles.Handles.note_at.Goals as goal

pub invariant_of-self-2 : goal.invariant_of-self-2
invariant_of-self-2 c =
    protocols_write (with_opens c.args.guid.now (noted c.args.entry)) c.args.self.now c.args.handle c.args.place c.self.inside.live.items c.self.inside.made c.index_mut.result.now c.note.new.self c.self.view_is
    c.requires.place c.index_mut.ensures.value c.in_ok-note.ensures.ok (rw (← c.self.view_is) c.self.invariant)
    (λ all. opens_is c.args.self.now.made c.index_mut.result.now c.args.guid.now (noted c.args.entry) (noted_kept c.args.entry c.requires.kept) all)

pub returns-clause-ok : goal.returns-clause-ok
returns-clause-ok c =
    opens_view (noted c.args.entry) c.args.guid.now c.args.self.now c.args.handle c.args.place c.self.inside.live.items c.self.inside.made c.index_mut.result.now c.note.new.self c.self.view_is
    c.requires.place c.index_mut.ensures.value c.in_ok-note.ensures.ok
