use Rattle.std.proofs.Common.{refl, ◌∷◌, []}
use Rattle.protocol_db.specs.Registrations.{is_for_any}
use Rattle.protocol_db.proofs.WholeLemmas.{notified_write}
use Rattle.protocol_db.proofs.CallLemmas.{reinstall_barred, reinstall_here}
use Rattle.protocol_db.proofs.protocols.Protocols.reinstall.Goals as goal

pub returns-then-is_barred : goal.returns-then-is_barred
returns-then-is_barred c = (reinstall_barred c.args.self.now c.args.handle c.args.guid.now c.args.old c.args.new c.is_barred.result c.is_barred.ensures c.if-is_barred.true, refl)

pub invariant_of-self : goal.invariant_of-self
invariant_of-self c =
    notified_write c.self.inside.handles c.replace.new.self c.self.inside.registrations.items c.put_pending.new.registrations.items c.self.inside.made (is_for_any ((c.args.guid.now, c.args.new) ∷ [])) c.args.handle c.self.invariant c.whole.ensures c.put_pending.ensures

pub returns-in-Ok : goal.returns-in-Ok
returns-in-Ok c =
    reinstall_here c.args.self.now c.self.inside.handles c.replace.new.self c.self.inside.registrations.items c.put_pending.new.registrations.items c.self.inside.made c.args.handle c.args.guid.now c.args.old c.args.new c.is_barred.result c.in_ok-events.events.items c.self.view_is
    c.in-Ok.ensures c.is_barred.ensures c.if-is_barred.false c.in_ok-events.ensures c.put_pending.ensures
