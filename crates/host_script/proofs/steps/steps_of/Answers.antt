use Rattle.std.proofs.Common.{sym, ◌∙◌, rules, arith}
use Rattle.host_script.proofs.Loops.{steps_of-goes_on, steps_of-fails, steps_of-end}
use Rattle.host_script.proofs.steps.steps_of.Goals as goal

pub returns-in-Err : goal.returns-in-Err
returns-in-Err c =
    rw (c.fault_at.ensures, c.len.ensures, c.loop-value.steps.ok.0) (steps_of-fails c.args.images.now c.loop-value.steps.items c.args.values.now c.loop-value.value-index c.value-item.result _ c.loop-value-test.true c.value-item.is c.loop-value.invariant.same c.in-Err.fault c.in-Err.ensures)

pub loop-value-preserved : goal.loop-value-preserved
loop-value-preserved c = record {
  same = rw c.in-Ok-push.ensures.items (steps_of-goes_on c.args.images.now c.loop-value.steps.items c.args.values.now c.loop-value.value-index c.value-item.result _ c.loop-value-test.true c.value-item.is c.loop-value.invariant.same c.in-Ok.step c.in-Ok.ensures);
  short = rw c.in-Ok-push.ensures.items (search (rules, c.loop-value.invariant.short));
}

pub returns : goal.returns
returns c = sym c.loop-value.invariant.same ∙ steps_of-end c.args.images.now c.loop-value.steps.items c.args.values.now c.loop-value.value-index (omega arith)
