use Rattle.std.proofs.Common.{drop, ◌≤◌, ◌≡◌, length}
use Rattle.host_engine.specs.ScriptRuns.{run_with, run_from}
use Rattle.host_engine.proofs.StepLemmas.{SoFar}
use Rattle.host_engine.proofs.script_run.run_steps.Given as goal

abbrev pub invariant-loop-step : goal.invariant-loop-step
invariant-loop-step g l = record {
  so_far : SoFar (run_with l.script l.inputs l.fn.variables) (run_from l.script l.inputs l.running (drop l.step-index l.steps)) (g.O.Sink.written l.fn.out) (g.O.Sink.written l.out);
  never : g.O.Sink.faults l.fn.out ≤ g.O.Sink.faults l.out;
  handles : length l.running.handles ≡ length l.script.image;
}
