use Rattle.std.proofs.Common.{refl}
use Rattle.host_engine.proofs.PutLemmas.{on_err, part_behind, part_before}
use Rattle.host_engine.proofs.message.put_both.Goals as goal

pub returns-in-Ok-clause-part : goal.returns-in-Ok-clause-part
returns-in-Ok-clause-part g c = on_err _ _ c.put-in-Ok.result (λ part. part_behind _ _ _ _ _ _ c.in-Ok.ensures.ok refl part) c.put-in-Ok.ensures.part

pub returns-in-Err-clause-part : goal.returns-in-Err-clause-part
returns-in-Err-clause-part g c = part_before _ _ _ _ _ refl c.in-Err.ensures.part
