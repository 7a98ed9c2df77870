use Rattle.std.proofs.Common.{◌≡◌, ◌+◌, drop}
use Rattle.host_engine.specs.Unbuilt.{unbuilt_step}
use Rattle.host_engine.proofs.unbuilt.unbuilt_step.Given as goal

abbrev pub invariant-loop-step : goal.invariant-loop-step
invariant-loop-step l = record {
  counted : l.number ≡ l.step-index + 1;
  same : unbuilt_step l.number (drop l.step-index l.steps) ≡ unbuilt_step 1 l.steps;
}
