use Rattle.std.proofs.Common.{arith}
use Rattle.host_engine.specs.ScriptRuns.{bytes_line}
use Rattle.host_engine.proofs.StepLemmas.{row_put, row_stops, item_first}
use Rattle.host_engine.proofs.PutLemmas.{stopped}
use Rattle.host_engine.proofs.call_step.put_shown.Goals as goal

pub loop-shown-preserved : goal.loop-shown-preserved
loop-shown-preserved g c = record {
  so_far = row_put _ _ _ _ _ (g.O.Sink.written c.put_bytes.new.out)
      (item_first (bytes_line c.args.layout.now c.args.memory.now) c.args.show.now c.loop-shown.shown-index _ _ _ c.loop-shown.invariant.so_far (record { offset = 0; len = 0 }) c.loop-shown-test.true) c.in-Ok.ensures.whole;
  never = omega (arith, c.loop-shown.invariant.never, c.in-Ok.ensures.never_falls);
}

pub returns-in-Err : goal.returns-in-Err
returns-in-Err g c =
    stopped _ _ c.in-Err.stop _ _ _ _ _ _ _ _ c.loop-shown.invariant.never c.in-Err.ensures
    (row_stops _ _ _ _ _ (g.O.Sink.written c.put_bytes.new.out)
    (item_first (bytes_line c.args.layout.now c.args.memory.now) c.args.show.now c.loop-shown.shown-index _ _ _ c.loop-shown.invariant.so_far (record { offset = 0; len = 0 }) c.loop-shown-test.true) c.in-Err.ensures.part)
