use Rattle.std.proofs.Common.{◌≡◌, ◌∙◌, ap, sym, subst, arith}
use Rattle.host_script.specs.Forms.{AreSteps}
use Rattle.host_script.specs.Plain.{Plain}
use Rattle.host_engine.specs.declared.course.Course.TheVariants.{GoesOn, Resets, Halts}
use Rattle.host_engine.specs.ScriptRuns.{run_with}
use Rattle.host_engine.proofs.PlaceLemmas.{step_at}
use Rattle.host_engine.proofs.PutLemmas.{went, stopped}
use Rattle.host_engine.proofs.StepLemmas.{opens, handles_opened, goes_on, ends_here, stops_here, ends, stops_at_end}
use Rattle.host_engine.proofs.script_run.run_steps.Goals as goal

pub loop-step-init : goal.loop-step-init
loop-step-init g c = record {
  so_far = opens c.args.script.now c.args.inputs.now c.args.variables _ c.as_slice-steps.result.now (g.O.Sink.written c.args.out.now) c.in-Ok.ensures (c.as_slice-steps.ensures.value ∙ ap (λ (s : Plain). s.step) c.script.view_is);
  never = omega arith;
  handles = handles_opened c.args.script.now c.args.variables _ c.in-Ok.ensures;
}

pub loop-step-preserved : goal.loop-step-preserved
loop-step-preserved g c = record {
  so_far = goes_on c.args.script.now c.args.inputs.now (run_with c.args.script.now c.args.inputs.now c.args.variables) c.as_slice-steps.result.now c.loop-step.step-index c.step-item.result c.loop-step.running _ _ (g.O.Sink.written c.make_step.new.out) c.loop-step-test.true c.step-item.is c.loop-step.invariant.so_far c.make_step.new.running (rw c.in-Ok-GoesOn.field-0-is at c.in-Ok-GoesOn.ensures.made) c.in-Ok-GoesOn.ensures.puts.whole;
  never = omega (arith, c.in-Ok-GoesOn.ensures.puts.never_falls);
  handles = c.make_step.ensures.handles ∙ c.loop-step.invariant.handles;
}

pub returns-in-Ok-Resets-clause-halted : goal.returns-in-Ok-Resets-clause-halted
returns-in-Ok-Resets-clause-halted g c = (ends_here c.args.script.now c.args.inputs.now (run_with c.args.script.now c.args.inputs.now c.args.variables) c.as_slice-steps.result.now c.loop-step.step-index c.step-item.result c.loop-step.running _ _ (g.O.Sink.written c.make_step.new.out) c.loop-step-test.true c.step-item.is c.loop-step.invariant.so_far Resets (λ (e : Resets ≡ GoesOn). cc) c.make_step.new.running (rw c.in-Ok-Resets.field-0-is at c.in-Ok-Resets.ensures.made) c.in-Ok-Resets.ensures.puts.whole).is_halted

pub returns-in-Ok-Resets-clause-puts : goal.returns-in-Ok-Resets-clause-puts
returns-in-Ok-Resets-clause-puts g c =
    went _ _ _ _ _ _ (ends_here c.args.script.now c.args.inputs.now (run_with c.args.script.now c.args.inputs.now c.args.variables) c.as_slice-steps.result.now c.loop-step.step-index c.step-item.result c.loop-step.running _ _ (g.O.Sink.written c.make_step.new.out) c.loop-step-test.true c.step-item.is c.loop-step.invariant.so_far Resets (λ (e : Resets ≡ GoesOn). cc) c.make_step.new.running (rw c.in-Ok-Resets.field-0-is at c.in-Ok-Resets.ensures.made) c.in-Ok-Resets.ensures.puts.whole).put
    (omega (arith, c.loop-step.invariant.never, c.in-Ok-Resets.ensures.puts.never_falls))

pub returns-in-Ok-Halts-clause-halted : goal.returns-in-Ok-Halts-clause-halted
returns-in-Ok-Halts-clause-halted g c = (ends_here c.args.script.now c.args.inputs.now (run_with c.args.script.now c.args.inputs.now c.args.variables) c.as_slice-steps.result.now c.loop-step.step-index c.step-item.result c.loop-step.running _ _ (g.O.Sink.written c.make_step.new.out) c.loop-step-test.true c.step-item.is c.loop-step.invariant.so_far Halts (λ (e : Halts ≡ GoesOn). cc) c.make_step.new.running (rw c.in-Ok-Halts.field-0-is at c.in-Ok-Halts.ensures.made) c.in-Ok-Halts.ensures.puts.whole).is_halted

pub returns-in-Ok-Halts-clause-puts : goal.returns-in-Ok-Halts-clause-puts
returns-in-Ok-Halts-clause-puts g c =
    went _ _ _ _ _ _ (ends_here c.args.script.now c.args.inputs.now (run_with c.args.script.now c.args.inputs.now c.args.variables) c.as_slice-steps.result.now c.loop-step.step-index c.step-item.result c.loop-step.running _ _ (g.O.Sink.written c.make_step.new.out) c.loop-step-test.true c.step-item.is c.loop-step.invariant.so_far Halts (λ (e : Halts ≡ GoesOn). cc) c.make_step.new.running (rw c.in-Ok-Halts.field-0-is at c.in-Ok-Halts.ensures.made) c.in-Ok-Halts.ensures.puts.whole).put
    (omega (arith, c.loop-step.invariant.never, c.in-Ok-Halts.ensures.puts.never_falls))

pub returns-in-Err-make_step-clause-puts : goal.returns-in-Err-make_step-clause-puts
returns-in-Err-make_step-clause-puts g c =
    stopped _ _ c.in-Err-make_step.stop _ _ _ _ _ _ _ _ c.loop-step.invariant.never c.in-Err-make_step.ensures.puts
    (stops_here c.args.script.now c.args.inputs.now (run_with c.args.script.now c.args.inputs.now c.args.variables) c.as_slice-steps.result.now c.loop-step.step-index c.step-item.result c.loop-step.running _ _ (g.O.Sink.written c.make_step.new.out) c.loop-step-test.true c.step-item.is c.loop-step.invariant.so_far c.in-Err-make_step.ensures.puts.part)

pub returns-in-Ok-put_line-clause-halted : goal.returns-in-Ok-put_line-clause-halted
returns-in-Ok-put_line-clause-halted g c = (ends c.args.script.now c.args.inputs.now (run_with c.args.script.now c.args.inputs.now c.args.variables) c.as_slice-steps.result.now c.loop-step.step-index c.loop-step.running _ _ (g.O.Sink.written c.put_line.new.out) (omega arith) c.loop-step.invariant.so_far c.in-Ok-put_line.ensures.whole).is_halted

pub returns-in-Ok-put_line-clause-puts : goal.returns-in-Ok-put_line-clause-puts
returns-in-Ok-put_line-clause-puts g c =
    went _ _ _ _ _ _ (ends c.args.script.now c.args.inputs.now (run_with c.args.script.now c.args.inputs.now c.args.variables) c.as_slice-steps.result.now c.loop-step.step-index c.loop-step.running _ _ (g.O.Sink.written c.put_line.new.out) (omega arith) c.loop-step.invariant.so_far c.in-Ok-put_line.ensures.whole).put
    (omega (arith, c.loop-step.invariant.never, c.in-Ok-put_line.ensures.never_falls))

pub returns-clause-puts : goal.returns-clause-puts
returns-clause-puts g c =
    stopped _ _ c.in-Err-put_line.stop _ _ _ _ _ _ _ _ c.loop-step.invariant.never c.in-Err-put_line.ensures
    (stops_at_end c.args.script.now c.args.inputs.now (run_with c.args.script.now c.args.inputs.now c.args.variables) c.as_slice-steps.result.now c.loop-step.step-index c.loop-step.running _ _ (g.O.Sink.written c.put_line.new.out) (omega arith) c.loop-step.invariant.so_far c.in-Err-put_line.ensures.part)

pub make_step-requires-clause-known : goal.make_step-requires-clause-known
make_step-requires-clause-known g c =
    let same : c.as_slice-steps.result.now ≡ c.args.script.now.step = c.as_slice-steps.ensures.value ∙ ap (λ (s : Plain). s.step) c.script.view_is in
    step_at c.args.script.now.image c.as_slice-steps.result.now c.loop-step.step-index c.step-item.result (subst (AreSteps c.args.script.now.image) (sym same) c.requires.forms.steps) c.loop-step-test.true c.step-item.is
