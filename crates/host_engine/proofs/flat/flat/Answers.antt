use Rattle.std.proofs.Common.{sym}
use Rattle.host_engine.proofs.BuildLemmas.{flat_whole, flat_part}
use Rattle.host_engine.proofs.flat.flat.Goals as goal

pub returns-in-Ok-put : goal.returns-in-Ok-put
returns-in-Ok-put g c =
    flat_whole _ _ c.in-Ok.file.items _ c.in-Ok.ensures.had c.in-Ok-execute_file.ran.0 c.in-Ok-execute_file.ran.1.items (rw (sym c.as_slice.ensures.value) c.in-Ok-execute_file.ensures.halted) (rw (sym c.as_slice.ensures.value) c.in-Ok-execute_file.ensures.text) _ _ _ _ _ _ _ _ _
    (rw (sym c.as_slice-2.ensures.value) c.in-Ok-put.ensures.ok)

pub returns : goal.returns
returns g c = (
  c.in-Err-put.ensures.cause,
  flat_part _ _ c.in-Ok.file.items _ c.in-Ok.ensures.had c.in-Ok-execute_file.ran.0 c.in-Ok-execute_file.ran.1.items (rw (sym c.as_slice.ensures.value) c.in-Ok-execute_file.ensures.halted) (rw (sym c.as_slice.ensures.value) c.in-Ok-execute_file.ensures.text) _ _ _ _ _ _ _ _ _
      (rw (sym c.as_slice-2.ensures.value) c.in-Err-put.ensures.part),
)
