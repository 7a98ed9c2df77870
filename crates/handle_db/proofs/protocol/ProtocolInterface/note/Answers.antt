use Rattle.std.proofs.Common.{sym, ◌∙◌, ap}
use Rattle.std.specs.List.{position}
use Rattle.handle_db.specs.Database.{Protocol, is_like, noted}
use Rattle.handle_db.proofs.ViewLemmas.{protocol_with, noted_there, noted_last}
use Rattle.handle_db.proofs.protocol.ProtocolInterface.note.Goals as goal

pub returns-in-Some-clause-ok : goal.returns-in-Some-clause-ok
returns-in-Some-clause-ok c =
    let place = ap (λ (p : Protocol). position (is_like c.args.entry) p.opens) c.self.view_is ∙ sym c.place_like.ensures ∙ c.in-Some.is in
    protocol_with (noted c.args.entry) _ _ _ _ _ c.self.view_is (noted_there c.args.entry c.index.result.now _ c.in-Some.place _ place c.index.ensures c.once_more.ensures)

pub returns-in_ok-push-in-None-clause-ok : goal.returns-in_ok-push-in-None-clause-ok
returns-in_ok-push-in-None-clause-ok c =
    let place = ap (λ (p : Protocol). position (is_like c.args.entry) p.opens) c.self.view_is ∙ sym c.place_like.ensures ∙ c.in-None.is in
    protocol_with (noted c.args.entry) _ _ _ _ _ c.self.view_is (noted_last c.args.entry _ _ place c.in_ok-push-in-None.ensures.items)
