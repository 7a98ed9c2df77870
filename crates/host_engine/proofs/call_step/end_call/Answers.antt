use Rattle.host_engine.proofs.StepLemmas.{shown_stops, shown_part}
use Rattle.host_engine.proofs.call_step.end_call.Goals as goal

pub returns-in-Err-clause-puts : goal.returns-in-Err-clause-puts
returns-in-Err-clause-puts g c = shown_stops _ c.args.show.now _ _ c.in-Err.stop _ _ _ _ c.in-Err.ensures.puts

pub returns-in-Err-show_bytes-clause-puts : goal.returns-in-Err-show_bytes-clause-puts
returns-in-Err-show_bytes-clause-puts g c =
    shown_part _ c.args.show.now c.in-Ok.course c.finish_call.new.running c.in-Ok.ensures.made _ _ _ _ _ _ c.in-Ok.ensures.puts.whole c.finish_call.ensures.puts.never_falls _ _ c.in-Err-show_bytes.stop c.in-Err-show_bytes.ensures
