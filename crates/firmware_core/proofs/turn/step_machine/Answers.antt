use Rattle.std.proofs.Common.{◌≡◌, false, sym, ap, ◌∙◌}
use Rattle.firmware_core.specs.Frames.{tick_is_due}
use Rattle.firmware_core.specs.Turns.{State}
use Rattle.firmware_core.proofs.TurnLemmas.{tick_now, notice_now, quiet_now, counted_now}
use Rattle.firmware_core.proofs.turn.step_machine.Goals as goal

pub returns-then-tick_is_due : goal.returns-then-tick_is_due
returns-then-tick_is_due c = rw (← c.machine.view_is) (tick_now _ _ (sym c.if-tick_is_due.true ∙ c.tick_is_due.ensures) c.tick.ensures)

pub counted_turn-requires : goal.counted_turn-requires
counted_turn-requires c =
    let quiet : false ≡ tick_is_due c.args.machine.now.firmware = sym c.if-tick_is_due.false ∙ c.tick_is_due.ensures ∙ ap (λ (s : State). tick_is_due s.firmware) c.machine.view_is in
    quiet_now c.args.machine.now _ quiet (rw c.in-Ok-None.field-0-is at c.in-Ok-None.ensures)

pub returns-in-Ok-Some : goal.returns-in-Ok-Some
returns-in-Ok-Some c =
    let quiet : false ≡ tick_is_due c.args.machine.now.firmware = sym c.if-tick_is_due.false ∙ c.tick_is_due.ensures ∙ ap (λ (s : State). tick_is_due s.firmware) c.machine.view_is in
    notice_now c.args.machine.now _ _ quiet (rw c.in-Ok-Some.field-0-is at c.in-Ok-Some.ensures)

pub returns-in-Ok-None : goal.returns-in-Ok-None
returns-in-Ok-None c =
    let quiet : false ≡ tick_is_due c.args.machine.now.firmware = sym c.if-tick_is_due.false ∙ c.tick_is_due.ensures ∙ ap (λ (s : State). tick_is_due s.firmware) c.machine.view_is in
    counted_now _ c.args.machine.now _ _ quiet (rw c.in-Ok-None.field-0-is at c.in-Ok-None.ensures) c.counted_turn.ensures
