use Rattle.std.proofs.Common.{map, arith}
use Rattle.host_engine.specs.ScriptRuns.{row_of}
use Rattle.host_engine.proofs.StepLemmas.{rows_begin, row_put, row_stops, row_first}
use Rattle.host_engine.proofs.PutLemmas.{stopped}
use Rattle.host_engine.proofs.script_run.put_rows.Goals as goal

pub loop-descriptor-init : goal.loop-descriptor-init
loop-descriptor-init g c = record { so_far = rows_begin (map row_of c.args.rows.now) (g.O.Sink.written c.args.out.now); never = omega arith }

pub loop-descriptor-preserved : goal.loop-descriptor-preserved
loop-descriptor-preserved g c = record {
  so_far = row_put _ (row_of c.in-Some.descriptor) (map row_of c.next.new.self) _ _ (g.O.Sink.written c.say.new.out) (row_first _ c.in-Some.descriptor _ _ _ _ c.in-Some.ensures c.loop-descriptor.invariant.so_far) (rw c.row_of.ensures at c.in-Ok.ensures.whole);
  never = omega (arith, c.loop-descriptor.invariant.never, c.say.ensures.never_falls);
}

pub returns-in-Err : goal.returns-in-Err
returns-in-Err g c =
    stopped _ _ c.in-Err.stop _ _ _ _ _ _ _ _ c.loop-descriptor.invariant.never c.in-Err.ensures
    (row_stops _ (row_of c.in-Some.descriptor) (map row_of c.next.new.self) _ _ (g.O.Sink.written c.say.new.out) (row_first _ c.in-Some.descriptor _ _ _ _ c.in-Some.ensures c.loop-descriptor.invariant.so_far) (rw c.row_of.ensures at c.in-Err.ensures.part))
