use Rattle.std.proofs.Common.{◌≤◌}
use Rattle.firmware_core.specs.Jobs.{job_of, steps_left}
use Rattle.host_engine.proofs.JobLemmas.{SoFar}
use Rattle.host_engine.proofs.job.run_job.Given as goal

abbrev pub invariant-loop-line : goal.invariant-loop-line
invariant-loop-line g l = record {
  so_far : SoFar (job_of l.fn.machine) (job_of l.machine) (g.O.Sink.written l.fn.out) (g.O.Sink.written l.out);
  never : g.O.Sink.faults l.fn.out ≤ g.O.Sink.faults l.out;
}

abbrev pub decreases-loop-line : goal.decreases-loop-line
decreases-loop-line g l = steps_left l.machine
