use Rattle.std.proofs.Common.{sym, ap, subst, ◌∙◌}
use Rattle.provenance_check.specs.Ground.{AreRegisters}
use Rattle.provenance_check.proofs.entries.entry_rule.Goals as goal

pub begins_in-requires-clause-arguments : goal.begins_in-requires-clause-arguments
begins_in-requires-clause-arguments c = subst AreRegisters (ap (λ e. e.arg_kinds) (sym c.entry.view_is) ∙ sym c.as_slice-then-are_arguments.ensures.value) c.requires.arguments
