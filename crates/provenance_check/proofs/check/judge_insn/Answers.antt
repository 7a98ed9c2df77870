use Rattle.std.proofs.Common.{sym, ap, subst, ◌∙◌}
use Rattle.provenance_check.specs.Ground.{AreRegisters}
use Rattle.provenance_check.proofs.check.judge_insn.Goals as goal

pub kinds_of-kinds-requires : goal.kinds_of-kinds-requires
kinds_of-kinds-requires g c = subst AreRegisters (ap (λ n. n.regs) (sym c.node.view_is) ∙ sym c.as_slice.ensures.value) c.requires.node.registers
