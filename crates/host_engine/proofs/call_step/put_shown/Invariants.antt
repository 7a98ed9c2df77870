use Rattle.std.proofs.Common.{◌≤◌, drop, map}
use Rattle.host_engine.specs.ScriptRuns.{bytes_line}
use Rattle.host_engine.proofs.StepLemmas.{RowsSoFar}
use Rattle.host_engine.proofs.call_step.put_shown.Given as goal

abbrev pub invariant-loop-shown : goal.invariant-loop-shown
invariant-loop-shown g l = record {
  so_far : RowsSoFar (map (bytes_line l.layout l.memory) l.show) (map (bytes_line l.layout l.memory) (drop l.shown-index l.show)) (g.O.Sink.written l.fn.out) (g.O.Sink.written l.out);
  never : g.O.Sink.faults l.fn.out ≤ g.O.Sink.faults l.out;
}
