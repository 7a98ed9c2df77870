use Rattle.std.proofs.Common.{refl}
use Rattle.protocol_db.proofs.WholeLemmas.{silenced_write}
use Rattle.protocol_db.proofs.CallLemmas.{uninstall_barred, uninstall_here}
use Rattle.protocol_db.proofs.protocols.Protocols.uninstall.Goals as goal

pub returns-then-is_barred : goal.returns-then-is_barred
returns-then-is_barred c = (uninstall_barred c.args.self.now c.args.handle c.args.guid.now c.args.interface c.is_barred.result c.is_barred.ensures c.if-is_barred.true, refl)

pub invariant_of-self : goal.invariant_of-self
invariant_of-self c =
    silenced_write c.args.self.now c.self.inside.handles c.remove.new.self c.self.inside.registrations.items _ c.self.inside.made c.args.guid.now c.args.handle c.self.invariant c.whole.ensures c.silence_all.ensures

pub returns-in-Ok : goal.returns-in-Ok
returns-in-Ok c =
    uninstall_here c.args.self.now c.self.inside.handles c.remove.new.self c.self.inside.registrations.items _ c.self.inside.made c.args.handle c.args.guid.now c.args.interface c.is_barred.result c.self.view_is
    c.in-Ok.ensures c.is_barred.ensures c.if-is_barred.false c.silence_all.ensures
