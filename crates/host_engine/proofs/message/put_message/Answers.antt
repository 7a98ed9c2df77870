use Rattle.std.proofs.Common.{sym, append_assoc, ◌++◌, [], ◌∷◌, codes}
use Rattle.host_engine.proofs.PutLemmas.{on_err, part_behind, part_before}
use Rattle.host_engine.proofs.message.put_message.Goals as goal

pub returns-in-Ok-clause-part : goal.returns-in-Ok-clause-part
returns-in-Ok-clause-part g c =
    on_err _ _ c.put_both-in-Ok.result (λ part. part_behind _ _ _ _ _ _ c.in-Ok.ensures.ok (sym (append_assoc (codes "uefihost: " ++ c.args.reason.now) c.args.name.now (10 ∷ []))) part) c.put_both-in-Ok.ensures.part

pub returns-in-Err-clause-part : goal.returns-in-Err-clause-part
returns-in-Err-clause-part g c = part_before _ _ _ (c.args.name.now ++ 10 ∷ []) _ (sym (append_assoc (codes "uefihost: " ++ c.args.reason.now) c.args.name.now (10 ∷ []))) c.in-Err.ensures.part
