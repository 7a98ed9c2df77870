use Rattle.std.proofs.Common.{sym, ◌∙◌, arith}
use Rattle.record_text.proofs.ConsoleLemmas.{stays, goes_on, at_last, is_end}
use Rattle.record_text.proofs.console.are_units.Goals as goal

pub returns-in-None : goal.returns-in-None
returns-in-None c = is_end _ _ _ c.is_empty.ensures (sym (stays _ _ c.in-None.ensures) ∙ c.loop-unit.invariant)

pub loop-unit-preserved : goal.loop-unit-preserved
loop-unit-preserved c = goes_on _ _ _ _ (omega arith) c.in-Some.ensures ∙ c.loop-unit.invariant

pub returns : goal.returns
returns c = is_end _ _ _ c.is_empty-2.ensures (sym (at_last _ _ (omega arith)) ∙ c.loop-unit.invariant)
