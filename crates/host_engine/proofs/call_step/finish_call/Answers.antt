use Rattle.firmware_core.specs.declared.happened.JobEnd.{JobEnd}
use Rattle.host_engine.specs.ScriptRuns.{call_line}
use Rattle.host_engine.proofs.StepLemmas.{finish_put, finish_stops}
use Rattle.host_engine.proofs.call_step.finish_call.Goals as goal

pub returns-in-Err-clause-puts : goal.returns-in-Err-clause-puts
returns-in-Err-clause-puts g c = finish_stops (λ (e : JobEnd). call_line c.args.name.now e) _ c.args.running.now c.running.view_is _ _ c.in-Err.stop _ _ _ _ c.in-Err.ensures.puts

pub returns-clause-puts : goal.returns-clause-puts
returns-clause-puts g c = finish_put (λ (e : JobEnd). call_line c.args.name.now e) _ c.args.running.now c.running.view_is _ c.in-Ok.end _ c.in-Ok.ensures.ended _ _ _ _ _ _ c.in-Ok.ensures.puts.whole c.run_job.ensures.puts.never_falls c.put_call_end.ensures.puts
