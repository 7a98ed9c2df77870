use Rattle.std.proofs.Common.{sym, ◌∙◌, false, true}
use Rattle.host_engine.proofs.ExecutionLemmas.{executed_next, executed_trap, executed_over, executed_begins}
use Rattle.host_engine.proofs.execution.execute.Goals as goal

pub loop-steps-init : goal.loop-steps-init
loop-steps-init c = executed_begins _ _ _

pub returns-in-Trap : goal.returns-in-Trap
returns-in-Trap c = sym (executed_trap _ (λ at width. false) (λ at width. true) _ _ _ _ _ c.loop-steps-test.true c.in-Trap.ensures.step) ∙ c.loop-steps.invariant

pub loop-steps-preserved : goal.loop-steps-preserved
loop-steps-preserved c = sym (executed_next _ (λ at width. false) (λ at width. true) _ _ _ _ c.loop-steps-test.true c.in-Next.ensures.step) ∙ c.loop-steps.invariant

pub returns : goal.returns
returns c = sym (executed_over _ _ _ _ c.loop-steps-test.false c.loop-steps.auto.steps-end) ∙ c.loop-steps.invariant
