use Rattle.std.proofs.Common.{sym, ap, subst, ◌∙◌}
use Rattle.provenance_check.specs.Ground.{AreParts}
use Rattle.provenance_check.proofs.notified.begins_notified.Goals as goal

pub parts_fit-requires : goal.parts_fit-requires
parts_fit-requires c = subst AreParts (ap (λ n. n.stack) (sym c.node.view_is) ∙ sym c.as_slice.ensures.value) c.requires.node.parts
