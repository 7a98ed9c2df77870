use Rattle.std.proofs.Common.{sym}
use Rattle.host_engine.proofs.BuildLemmas.{build_refused, built_whole, built_part}
use Rattle.host_engine.proofs.build.build.Goals as goal

pub returns-in-Err-assembly_of : goal.returns-in-Err-assembly_of
returns-in-Err-assembly_of g c = rw c.of_text.ensures (build_refused _ _ c.in-Ok.file.items c.in-Err-assembly_of.why c.in-Ok.ensures.had (rw (sym c.as_slice.ensures.value) c.in-Err-assembly_of.ensures) _ _ _ _ _ _ _)

pub returns-in-Ok-put : goal.returns-in-Ok-put
returns-in-Ok-put g c = built_whole _ _ c.in-Ok.file.items c.in-Ok-assembly_of.image.items c.in-Ok.ensures.had (rw (sym c.as_slice.ensures.value) c.in-Ok-assembly_of.ensures) _ _ _ _ _ _ _ _ _ (rw (sym c.as_slice-2.ensures.value) c.in-Ok-put.ensures.ok)

pub returns : goal.returns
returns g c = (c.in-Err-put.ensures.cause, built_part _ _ c.in-Ok.file.items c.in-Ok-assembly_of.image.items c.in-Ok.ensures.had (rw (sym c.as_slice.ensures.value) c.in-Ok-assembly_of.ensures) _ _ _ _ _ _ _ _ _ (rw (sym c.as_slice-2.ensures.value) c.in-Err-put.ensures.part))
