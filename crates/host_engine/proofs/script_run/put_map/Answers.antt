use Rattle.host_engine.proofs.StepLemmas.{map_put, map_stops}
use Rattle.host_engine.proofs.script_run.put_map.Goals as goal

pub returns-in-Err : goal.returns-in-Err
returns-in-Err g c = map_stops _ _ c.in-Err.stop c.args.pages.now _ c.key.ensures _ _ _ _ c.in-Err.ensures

pub returns : goal.returns
returns g c = map_put _ c.args.pages.now _ _ c.key.ensures c.new-rows.ensures _ _ _ _ _ _ c.in-Ok.ensures.whole c.say.ensures.never_falls c.put_rows.ensures
