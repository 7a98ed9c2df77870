use Rattle.std.proofs.Common.{sym, ◌∙◌, ap}
use Rattle.std.specs.List.{position}
use Rattle.handle_db.specs.Database.{Handle, has_guid, closed, with_opens}
use Rattle.handle_db.proofs.ViewLemmas.{handle_with, opens_there, opens_none}
use Rattle.handle_db.proofs.handle.LiveHandle.close.Goals as goal

pub returns-in-Some : goal.returns-in-Some
returns-in-Some c =
    let place = ap (λ (h : Handle). position (has_guid c.args.guid.now) h.protocols) c.self.view_is ∙ sym c.place.ensures ∙ c.in-Some.is in
    handle_with (with_opens c.args.guid.now (closed c.args.agent c.args.controller)) _ _ _ _ c.self.view_is (opens_there c.args.guid.now (closed c.args.agent c.args.controller) c.self.inside.protocols.items c.in-Some.place c.index_mut.result.now _ place c.index_mut.ensures.value c.close.ensures)

pub returns-in_default : goal.returns-in_default
returns-in_default c =
    ap (λ ps. record c.args.self.now { protocols = ps }) (sym (opens_none c.args.guid.now (closed c.args.agent c.args.controller) c.args.self.now.protocols (sym c.place.ensures ∙ c.in_default.is)))
