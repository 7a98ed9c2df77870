use Rattle.std.proofs.Common.{sym}
use Rattle.prov_layout.proofs.Runs.{proper_at}
use Rattle.prov_layout.proofs.stores.keeps.Goals as goal

pub takes-requires-clause-proper : goal.takes-requires-clause-proper
takes-requires-clause-proper c = proper_at c.args.pieces.now c.in-Some.p c.args.region c.args.o c.requires.order (sym c.in-Some.ensures.is)
