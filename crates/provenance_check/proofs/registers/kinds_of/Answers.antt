use Rattle.std.proofs.Common.{sym, subst}
use Rattle.provenance_check.proofs.ProperKinds.{AllProper, kinds_proper}
use Rattle.provenance_check.proofs.registers.kinds_of.Goals as goal

pub returns-clause-proper : goal.returns-clause-proper
returns-clause-proper c = subst AllProper (sym c.named_kinds.ensures) (kinds_proper c.args.regs.now c.requires)
