use Rattle.protocol_db.specs.Registrations.{is_for_any}
use Rattle.protocol_db.proofs.WholeLemmas.{notified_write}
use Rattle.protocol_db.proofs.AllLemmas.{all_here}
use Rattle.protocol_db.proofs.protocols.Protocols.install_pairs.Goals as goal

pub invariant_of-self : goal.invariant_of-self
invariant_of-self c =
    notified_write c.self.inside.handles c.install_all.new.self c.self.inside.registrations.items c.put_pending.new.registrations.items c.self.inside.made (is_for_any c.args.pairs.now) c.args.target c.self.invariant c.whole.ensures c.put_pending.ensures

pub returns-in-Ok : goal.returns-in-Ok
returns-in-Ok c =
    all_here c.args.self.now c.self.inside.handles c.install_all.new.self c.self.inside.registrations.items c.put_pending.new.registrations.items c.self.inside.made c.args.handle c.args.pairs.now c.args.target c.in-Ok.handle c.in_ok-events.events.items c.self.view_is
    c.requires.some c.in-Ok.ensures c.requires.target c.in_ok-events.ensures c.put_pending.ensures
