use Rattle.std.proofs.Common.{true, false}
use Rattle.host_engine.proofs.GivesLemmas.{refused_past, run_whole, run_write, run_memory, run_refused}
use Rattle.host_engine.proofs.RunPlanLemmas.{run_leads}
use Rattle.host_engine.proofs.run.run.Goals as goal

pub returns-in-Err : goal.returns-in-Err
returns-in-Err g c = c.in-Err.ensures.refused _ _ _

pub returns-in-Err-inputs_of : goal.returns-in-Err-inputs_of
returns-in-Err-inputs_of g c = refused_past _ _ c.in-Err-inputs_of.refusal _ _ _ _ _ _ _ _ c.in-Ok.ensures.onward c.in-Ok.ensures.had c.in-Err-inputs_of.ensures.refused _ _ _

pub returns-in-Done : goal.returns-in-Done
returns-in-Done g c = run_whole _ _ _ _ _ _ _ _ _ _ _ _ false (run_leads _ _ _ _ _ _ _ _ _ c.in-Ok.ensures.onward c.in-Ok.ensures.had c.in-Ok-inputs_of.ensures.had) c.in-Done.ensures

pub returns-in-Halted : goal.returns-in-Halted
returns-in-Halted g c = run_whole _ _ _ _ _ _ _ _ _ _ _ _ true (run_leads _ _ _ _ _ _ _ _ _ c.in-Ok.ensures.onward c.in-Ok.ensures.had c.in-Ok-inputs_of.ensures.had) c.in-Halted.ensures

pub returns-in-Store : goal.returns-in-Store
returns-in-Store g c = run_refused _ _ _ _ _ _ _ _ _ _ _ _ _ tt c.script_refusal.ensures (run_leads _ _ _ _ _ _ _ _ _ c.in-Ok.ensures.onward c.in-Ok.ensures.had c.in-Ok-inputs_of.ensures.had) c.in-Store.ensures

pub returns-in-Write : goal.returns-in-Write
returns-in-Write g c = run_write _ _ _ _ _ _ _ _ _ _ _ _ (run_leads _ _ _ _ _ _ _ _ _ c.in-Ok.ensures.onward c.in-Ok.ensures.had c.in-Ok-inputs_of.ensures.had) c.in-Write.ensures

pub returns : goal.returns
returns g c = run_memory _ _ _ _ _ _ _ _ _ _ _ _ tt (run_leads _ _ _ _ _ _ _ _ _ c.in-Ok.ensures.onward c.in-Ok.ensures.had c.in-Ok-inputs_of.ensures.had) c.in-Memory.ensures
