use Rattle.std.proofs.Common.{◌≡◌, ◌∙◌, ap, arith, sym}
use Rattle.std.proofs.lemmas.List.{set-get_or}
use Rattle.protocol_db.specs.Registrations.{lacks}
use Rattle.protocol_db.proofs.PendingLemmas.{skipped_put, skipped_left, put_next, one_is_left}
use Rattle.protocol_db.proofs.registration.put_pending.Goals as goal
use Rattle.protocol_db.proofs.registration.put_pending.Goals.{then-lacks+in-Some, then-lacks+in_default, else-lacks}

pub loop-registration-preserved : goal.loop-registration-preserved
loop-registration-preserved c =
    let pairs = c.args.pairs.now in
    let n = c.args.handle in
    let xs = c.deref_mut-registration-items.result.now in
    let ys = c.loop-registration.registration-items in
    let i = c.loop-registration.registration-index in
    let x = c.registration-item.result in
    let l = c.loop-registration-test.true in
    let lack : c.lacks.result ≡ lacks pairs n x = c.lacks.ensures ∙ ap (λ r. lacks pairs n r) (sym c.registration-item.is) in
    elim c.if-lacks.branch [
      | then-lacks+in-Some w ↦
          let next = put_next pairs n xs ys c.loop-registration.changed.items w.pop_front.new.self.items i x w.in-Some.next c.lacks.result l c.loop-registration.invariant.put c.registration-item.is lack w.if-lacks.true c.loop-registration.invariant.left w.in-Some.ensures.items in
          record { put = w.registration-items-is ∙ next.0; left = ap (λ d. d.items) w.changed-is ∙ next.1 }
      | then-lacks+in_default w ↦
          let some = one_is_left pairs n xs ys c.loop-registration.changed.items i x c.lacks.result l c.loop-registration.invariant.put c.registration-item.is lack w.if-lacks.true c.loop-registration.invariant.left in
          let none = w.in_default.ensures.cases.0 in
          let len = c.loop-registration.changed.ok in
          absurd (omega (arith, some, none, len))
      | else-lacks w ↦
          record {
            put = w.registration-items-is ∙ set-get_or ys i x ∙ skipped_put pairs n xs ys i x c.lacks.result l c.loop-registration.invariant.put c.registration-item.is lack w.if-lacks.false;
            left = ap (λ d. d.items) w.changed-is ∙ skipped_left pairs n xs ys c.loop-registration.changed.items i x c.lacks.result l c.loop-registration.invariant.put c.registration-item.is lack w.if-lacks.false c.loop-registration.invariant.left;
          }
    ]
