use Rattle.std.proofs.Common.{◌∙◌, sym, arith, refl}
use Rattle.event_queue.proofs.Signals.{group_all, group_here, group_passed, group_over, one_tied, tied_length}
use Rattle.event_queue.proofs.events.Events.signal_group.Goals.{then-is_in, else-is_in}
use Rattle.event_queue.proofs.events.Events.signal_group.Goals as goal

pub loop-place-init : goal.loop-place-init
loop-place-init c = record { rest = group_all c.args.self.now c.args.group.now; long = refl }

pub loop-place-preserved : goal.loop-place-preserved
loop-place-preserved c =
    elim c.if-is_in.branch [
      | then-is_in w ↦ record {
        rest = rw (w.self-is, w.raise.ensures) (sym (group_here c.loop-place.self c.args.group.now c.loop-place.place c.at-event.result c.at-event.ensures (sym c.is_in.ensures ∙ w.if-is_in.true)) ∙ c.loop-place.invariant.rest);
        long = rw (w.self-is, w.raise.ensures) (tied_length _ _ (one_tied c.loop-place.self c.at-event.result.number) ∙ c.loop-place.invariant.long);
      }
      | else-is_in w ↦ record {
        rest = rw w.self-is (sym (group_passed c.loop-place.self c.args.group.now c.loop-place.place c.at-event.result c.at-event.ensures (sym c.is_in.ensures ∙ w.if-is_in.false)) ∙ c.loop-place.invariant.rest);
        long = rw w.self-is c.loop-place.invariant.long;
      }
    ]

pub returns : goal.returns
returns c =
    let e = c.count-place-end.ensures in
    let l = c.loop-place.invariant.long in
    let t = c.loop-place-test.false in
    sym (group_over c.loop-place.self c.args.group.now c.loop-place.place (omega (arith, e, l, t))) ∙ c.loop-place.invariant.rest
