use Rattle.std.proofs.Common.{sym, ◌∙◌, ap}
use Rattle.std.specs.List.{position}
use Rattle.handle_db.specs.Database.{Handle, has_guid, noted, with_opens}
use Rattle.handle_db.proofs.ViewLemmas.{handle_with, opens_there, opens_none}
use Rattle.handle_db.proofs.handle.LiveHandle.note.Goals as goal

pub returns-in-None-clause-ok : goal.returns-in-None-clause-ok
returns-in-None-clause-ok c =
    ap (λ ps. record c.args.self.now { protocols = ps }) (sym (opens_none c.args.guid.now (noted c.args.entry) c.args.self.now.protocols (sym c.place.ensures ∙ c.in-None.is)))

pub returns-in_ok-note-in-Some-clause-ok : goal.returns-in_ok-note-in-Some-clause-ok
returns-in_ok-note-in-Some-clause-ok c =
    let place = ap (λ (h : Handle). position (has_guid c.args.guid.now) h.protocols) c.self.view_is ∙ sym c.place.ensures ∙ c.in-Some.is in
    handle_with (with_opens c.args.guid.now (noted c.args.entry)) _ _ _ _ c.self.view_is (opens_there c.args.guid.now (noted c.args.entry) c.self.inside.protocols.items c.in-Some.place c.index_mut.result.now _ place c.index_mut.ensures.value c.in_ok-note-in-Some.ensures.ok)
