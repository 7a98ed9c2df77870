use Rattle.std.proofs.Common.{◌∙◌, ap}
use Rattle.protocol_db.proofs.PendingLemmas.{collects, passes_by}
use Rattle.protocol_db.proofs.registration.with_pending.Goals as goal
use Rattle.protocol_db.proofs.registration.with_pending.Goals.{then-lacks+in_ok-with_last+in_ok-push_back, else-lacks}

pub loop-registration-preserved : goal.loop-registration-preserved
loop-registration-preserved c =
    let pairs = c.args.pairs.now in
    let n = c.args.handle in
    let xs = c.deref-registration-items.result.now in
    let i = c.loop-registration.registration-index in
    let x = c.registration-item.result in
    let l = c.loop-registration-test.true in
    elim c.if-lacks.branch [
      | then-lacks+in_ok-with_last+in_ok-push_back w ↦ collects pairs n xs c.loop-registration.changed.items c.if-lacks.changed.items i x _ c.lacks.result l c.registration-item.is c.lacks.ensures w.if-lacks.true c.loop-registration.invariant w.in_ok-with_last.ensures (ap (λ d. d.items) w.changed-is ∙ w.in_ok-push_back.ensures.items)
      | else-lacks w ↦ passes_by pairs n xs c.loop-registration.changed.items c.if-lacks.changed.items i x c.lacks.result l c.registration-item.is c.lacks.ensures w.if-lacks.false c.loop-registration.invariant (ap (λ d. d.items) w.changed-is)
    ]
