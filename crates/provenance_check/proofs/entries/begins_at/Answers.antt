use Rattle.std.proofs.Common.{sym, ap, subst, ◌∙◌}
use Rattle.provenance_check.specs.Ground.{AreParts, AreRegisters}
use Rattle.provenance_check.proofs.entries.begins_at.Goals as goal

pub kinds_of-requires : goal.kinds_of-requires
kinds_of-requires c = subst AreRegisters (ap (λ n. n.regs) (sym c.node.view_is) ∙ sym c.as_slice.ensures.value) c.requires.node.registers

pub parts_fit-requires : goal.parts_fit-requires
parts_fit-requires c = subst AreParts (ap (λ n. n.stack) (sym c.node.view_is) ∙ sym c.as_slice-then-kinds_fit.ensures.value) c.requires.node.parts
