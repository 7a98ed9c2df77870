use Rattle.std.proofs.Common.{sym}
use Rattle.host_engine.proofs.RunPlanLemmas.{script_had, script_refused}
use Rattle.host_engine.proofs.run.script_in.Goals as goal

pub returns-in-Ok-read_runnable-clause-had : goal.returns-in-Ok-read_runnable-clause-had
returns-in-Ok-read_runnable-clause-had g c = script_had _ _ c.in-Ok.file.items _ c.in-Ok.ensures.had (rw (sym c.as_slice.ensures.value) c.in-Ok-read_runnable.ensures.reads)

pub returns-in-Ok-read_runnable-clause-forms : goal.returns-in-Ok-read_runnable-clause-forms
returns-in-Ok-read_runnable-clause-forms g c = c.in-Ok-read_runnable.ensures.forms

pub returns-clause-refused : goal.returns-clause-refused
returns-clause-refused g c =
    let said = rw c.in-Err-At.field-0-is at c.in-Err-At.ensures.reads in
    λ told' out p. script_refused _ _ c.in-Ok.file.items (c.in-Err-At.step, c.in-Err-At.kind) c.script_refusal.result c.in-Ok.ensures.had (rw (sym c.as_slice.ensures.value) said) c.script_refusal.ensures told' _ _ _ _ out p
