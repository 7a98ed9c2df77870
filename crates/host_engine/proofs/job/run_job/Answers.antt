use Rattle.std.proofs.Common.{arith, refl}
use Rattle.firmware_core.specs.declared.happened.JobEnd.TheVariants.{Left, Reset, Halted}
use Rattle.firmware_core.specs.Jobs.{job_of}
use Rattle.host_engine.proofs.JobLemmas.{begins, goes_on, ends_here, put_here, stops_here, part_by_then}
use Rattle.host_engine.proofs.PutLemmas.{went, stopped, memory_stop}
use Rattle.host_engine.proofs.job.run_job.Goals as goal

pub loop-line-init : goal.loop-line-init
loop-line-init g c = record { so_far = begins (job_of c.args.machine.now) (g.O.Sink.written c.args.out.now); never = omega arith }

pub loop-line-smaller : goal.loop-line-smaller
loop-line-smaller g c = let says = rw c.in-Ok-Said.field-0-is at c.in-Ok-Said.ensures in says.fewer refl

pub loop-line-preserved : goal.loop-line-preserved
loop-line-preserved g c = record {
  so_far = goes_on _ _ _ _ _ c.loop-line.invariant.so_far c.in-Ok-Said.line (rw c.in-Ok-Said.field-0-is at c.in-Ok-Said.ensures) (g.O.Sink.written c.say.new.out) c.in-Ok.ensures.whole;
  never = omega (arith, c.loop-line.invariant.never, c.say.ensures.never_falls);
}

pub returns-in-Ok-Left-clause-ended : goal.returns-in-Ok-Left-clause-ended
returns-in-Ok-Left-clause-ended g c = ends_here _ _ _ _ _ c.loop-line.invariant.so_far (Left c.in-Ok-Left.value c.in-Ok-Left.steps) (rw c.in-Ok-Left.field-0-is at c.in-Ok-Left.ensures).rest

pub returns-in-Ok-Left-clause-puts : goal.returns-in-Ok-Left-clause-puts
returns-in-Ok-Left-clause-puts g c =
    went _ _ _ _ _ _ (put_here _ _ _ _ _ c.loop-line.invariant.so_far (Left c.in-Ok-Left.value c.in-Ok-Left.steps) (rw c.in-Ok-Left.field-0-is at c.in-Ok-Left.ensures).rest) c.loop-line.invariant.never

pub returns-in-Ok-Reset-clause-ended : goal.returns-in-Ok-Reset-clause-ended
returns-in-Ok-Reset-clause-ended g c = ends_here _ _ _ _ _ c.loop-line.invariant.so_far (Reset c.in-Ok-Reset.kind c.in-Ok-Reset.status) (rw c.in-Ok-Reset.field-0-is at c.in-Ok-Reset.ensures).rest

pub returns-in-Ok-Reset-clause-puts : goal.returns-in-Ok-Reset-clause-puts
returns-in-Ok-Reset-clause-puts g c =
    went _ _ _ _ _ _ (put_here _ _ _ _ _ c.loop-line.invariant.so_far (Reset c.in-Ok-Reset.kind c.in-Ok-Reset.status) (rw c.in-Ok-Reset.field-0-is at c.in-Ok-Reset.ensures).rest) c.loop-line.invariant.never

pub returns-in-Ok-Halted-clause-ended : goal.returns-in-Ok-Halted-clause-ended
returns-in-Ok-Halted-clause-ended g c = ends_here _ _ _ _ _ c.loop-line.invariant.so_far (Halted c.in-Ok-Halted.halt) (rw c.in-Ok-Halted.field-0-is at c.in-Ok-Halted.ensures).rest

pub returns-in-Ok-Halted-clause-puts : goal.returns-in-Ok-Halted-clause-puts
returns-in-Ok-Halted-clause-puts g c =
    went _ _ _ _ _ _ (put_here _ _ _ _ _ c.loop-line.invariant.so_far (Halted c.in-Ok-Halted.halt) (rw c.in-Ok-Halted.field-0-is at c.in-Ok-Halted.ensures).rest) c.loop-line.invariant.never

pub returns-in-Err-clause-puts : goal.returns-in-Err-clause-puts
returns-in-Err-clause-puts g c = memory_stop _ _ _ _ _ _ (part_by_then _ _ c.run_machine.new.machine _ _ c.loop-line.invariant.so_far) c.loop-line.invariant.never

pub returns-in-Err-say-clause-puts : goal.returns-in-Err-say-clause-puts
returns-in-Err-say-clause-puts g c =
    stopped _ _ c.in-Err-say.stop _ _ _ _ _ _ _ _ c.loop-line.invariant.never c.in-Err-say.ensures
    (stops_here _ _ _ _ _ c.loop-line.invariant.so_far c.in-Ok-Said.line (rw c.in-Ok-Said.field-0-is at c.in-Ok-Said.ensures) (g.O.Sink.written c.say.new.out) c.in-Err-say.ensures.part)
