use Rattle.std.proofs.Common.{◌≤◌, length, map}
use Rattle.host_engine.specs.ScriptRuns.{row_of}
use Rattle.host_engine.proofs.StepLemmas.{RowsSoFar}
use Rattle.host_engine.proofs.script_run.put_rows.Given as goal

abbrev pub invariant-loop-descriptor : goal.invariant-loop-descriptor
invariant-loop-descriptor g l = record {
  so_far : RowsSoFar (map row_of l.fn.rows) (map row_of l.rows) (g.O.Sink.written l.fn.out) (g.O.Sink.written l.out);
  never : g.O.Sink.faults l.fn.out ≤ g.O.Sink.faults l.out;
}

abbrev pub decreases-loop-descriptor : goal.decreases-loop-descriptor
decreases-loop-descriptor g l = length l.rows
