use Rattle.std.proofs.Common.{refl, ◌∷◌, []}
use Rattle.protocol_db.specs.Registrations.{is_for_any}
use Rattle.protocol_db.proofs.WholeLemmas.{notified_write}
use Rattle.protocol_db.proofs.CallLemmas.{install_full, install_here}
use Rattle.protocol_db.proofs.protocols.Protocols.install.Goals as goal

pub returns-in_default : goal.returns-in_default
returns-in_default c = (install_full c.args.self.now c.args.handle c.args.guid c.args.interface c.target.result c.target.ensures c.in_default.is, refl)

pub invariant_of-self : goal.invariant_of-self
invariant_of-self c =
    notified_write c.self.inside.handles c.install.new.self c.self.inside.registrations.items c.put_pending.new.registrations.items c.self.inside.made (is_for_any ((c.args.guid, c.args.interface) ∷ [])) c.in-Some.target c.self.invariant c.whole.ensures c.put_pending.ensures

pub returns-in-Ok : goal.returns-in-Ok
returns-in-Ok c =
    install_here c.args.self.now c.self.inside.handles c.install.new.self c.self.inside.registrations.items c.put_pending.new.registrations.items c.self.inside.made c.args.handle c.args.guid c.args.interface c.in-Some.target c.in-Ok.handle c.target.result c.in_ok-events.events.items c.self.view_is
    c.in-Ok.ensures c.target.ensures c.in-Some.is c.in_ok-events.ensures c.put_pending.ensures
