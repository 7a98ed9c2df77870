use Rattle.protocol_db.proofs.CallLemmas.{nobody, somebody}
use Rattle.std.proofs.Common.{sym}
use Rattle.protocol_db.proofs.protocols.Protocols.find.Goals as goal

pub returns-in-None : goal.returns-in-None
returns-in-None c = sym (nobody c.args.self.now c.args.registration c.place.result c.place.ensures c.in-None.is)

pub returns-in-Some : goal.returns-in-Some
returns-in-Some c =
    sym (somebody c.args.self.now c.args.registration c.in-Some.place c.self.inside.handles c.self.inside.registrations.items c.self.inside.made c.index.result.now c.place.result c.self.view_is c.place.ensures c.in-Some.is c.index.ensures)
