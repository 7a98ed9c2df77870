use Rattle.std.proofs.Common.{sym, ap, subst, ◌∙◌}
use Rattle.provenance_check.specs.Ground.{AreRegisters}
use Rattle.provenance_check.proofs.notified.serves_with.Goals as goal

pub kinds_of-requires : goal.kinds_of-requires
kinds_of-requires c = subst AreRegisters (ap (λ n. n.regs) (sym c.node.view_is) ∙ sym c.as_slice.ensures.value) c.requires.registers
