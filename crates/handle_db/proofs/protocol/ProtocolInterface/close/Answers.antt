use Rattle.std.proofs.Common.{rules}
use Rattle.std.proofs.lemmas.Fn.{filter_same}
use Rattle.handle_db.specs.Database.{closed}
use Rattle.handle_db.proofs.ViewLemmas.{protocol_with}
use Rattle.handle_db.proofs.protocol.ProtocolInterface.close.Goals as goal

pub returns : goal.returns
returns c = protocol_with (closed c.args.agent c.args.controller) _ _ _ _ _ c.self.view_is (filter_same _ _ _ (λ x b f' k. search rules) _ _ c.retain.ensures.filtered)
