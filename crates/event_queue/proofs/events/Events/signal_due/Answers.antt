use Rattle.std.proofs.Common.{◌∙◌, sym, arith}
use Rattle.event_queue.proofs.Signals.{due_here, due_passed, due_over, signal_tied, tied_length}
use Rattle.event_queue.proofs.events.Events.signal_due.Goals.{then-is_due, else-is_due}
use Rattle.event_queue.proofs.events.Events.signal_due.Goals as goal

pub loop-place-preserved : goal.loop-place-preserved
loop-place-preserved c =
    elim c.if-is_due.branch [
      | then-is_due w ↦ record {
        rest = rw (w.self-is, w.signal_at.ensures) (sym (due_here c.loop-place.self c.args.present c.loop-place.place c.at-event.result c.at-event.ensures (sym c.is_due.ensures ∙ w.if-is_due.true)) ∙ c.loop-place.invariant.rest);
        long = rw (w.self-is, w.signal_at.ensures) (tied_length _ _ (signal_tied c.loop-place.self c.at-event.result.number) ∙ c.loop-place.invariant.long);
      }
      | else-is_due w ↦ record {
        rest = rw w.self-is (sym (due_passed c.loop-place.self c.args.present c.loop-place.place c.at-event.result c.at-event.ensures (sym c.is_due.ensures ∙ w.if-is_due.false)) ∙ c.loop-place.invariant.rest);
        long = rw w.self-is c.loop-place.invariant.long;
      }
    ]

pub returns : goal.returns
returns c =
    let e = c.count-place-end.ensures in
    let l = c.loop-place.invariant.long in
    let t = c.loop-place-test.false in
    sym (due_over c.loop-place.self c.args.present c.loop-place.place (omega (arith, e, l, t))) ∙ c.loop-place.invariant.rest
