use Rattle.protocol_db.proofs.WholeLemmas.{silenced_write}
use Rattle.protocol_db.proofs.protocols.Protocols.discard.Goals as goal

pub invariant_of-self : goal.invariant_of-self
invariant_of-self c =
    silenced_write c.args.self.now c.self.inside.handles c.discard.new.self c.self.inside.registrations.items _ c.self.inside.made c.args.guid.now c.args.handle c.self.invariant c.whole.ensures c.silence_all.ensures
