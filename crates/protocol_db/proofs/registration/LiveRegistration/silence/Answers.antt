use Rattle.std.proofs.Common.{rules}
use Rattle.std.proofs.lemmas.Fn.{filter_same}
use Rattle.protocol_db.proofs.CallLemmas.{silenced_here}
use Rattle.protocol_db.proofs.registration.LiveRegistration.silence.Goals as goal

pub returns-then-is_for : goal.returns-then-is_for
returns-then-is_for c = silenced_here c.args.guid.now c.self.inside.guid c.args.handle c.self.inside.number c.self.inside.event c.self.inside.pending.items c.retain.new.self.items c.args.self.now c.is_for.result c.self.view_is c.is_for.ensures c.if-is_for.true (filter_same _ _ _ (λ x b f' k. search rules) _ _ c.retain.ensures.filtered)
