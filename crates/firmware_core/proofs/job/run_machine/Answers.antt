use Rattle.std.proofs.Common.{◌≡◌, arith, refl}
use Rattle.firmware_core.specs.declared.happened.Happened.TheVariants.{Turned, Said, Left, Trapped, Reset, Halted}
use Rattle.firmware_core.proofs.SilentLemmas.{silent_at_first, silent_round, says}
use Rattle.firmware_core.proofs.job.run_machine.Goals as goal

pub loop-machine-init : goal.loop-machine-init
loop-machine-init c = record { silent = silent_at_first c.args.machine.now; within = c.whole.ensures }

pub loop-machine-smaller : goal.loop-machine-smaller
loop-machine-smaller c =
    let plain = c.in-Ok.ensures.nearer in
    let turn = (rw c.in-Ok-Turned.field-0-is at c.in-Ok-Turned.ensures.nearer) refl in
    omega (arith, plain, turn)

pub loop-machine-preserved : goal.loop-machine-preserved
loop-machine-preserved c = silent_round c.jobs_are_turns.ensures _ _ _ _ c.loop-machine.invariant c.in-Ok.ensures.silent (rw c.in-Ok-Turned.field-0-is at c.in-Ok-Turned.ensures.turn)

pub returns-in-Ok-Said : goal.returns-in-Ok-Said
returns-in-Ok-Said c =
    says c.jobs_are_turns.ensures _ _ _ _ c.loop-machine.invariant c.in-Ok.ensures.silent (Said c.in-Ok-Said.line) (rw c.in-Ok-Said.field-0-is at c.in-Ok-Said.ensures.turn)
    (λ (e : Said c.in-Ok-Said.line ≡ Turned). cc)

pub returns-in-Ok-Left : goal.returns-in-Ok-Left
returns-in-Ok-Left c =
    says c.jobs_are_turns.ensures _ _ _ _ c.loop-machine.invariant c.in-Ok.ensures.silent (Left c.in-Ok-Left.value c.in-Ok-Left.steps) (rw c.in-Ok-Left.field-0-is at c.in-Ok-Left.ensures.turn)
    (λ (e : Left c.in-Ok-Left.value c.in-Ok-Left.steps ≡ Turned). cc)

pub returns-in-Ok-Trapped : goal.returns-in-Ok-Trapped
returns-in-Ok-Trapped c =
    says c.jobs_are_turns.ensures _ _ _ _ c.loop-machine.invariant c.in-Ok.ensures.silent (Trapped c.in-Ok-Trapped.cause c.in-Ok-Trapped.steps) (rw c.in-Ok-Trapped.field-0-is at c.in-Ok-Trapped.ensures.turn)
    (λ (e : Trapped c.in-Ok-Trapped.cause c.in-Ok-Trapped.steps ≡ Turned). cc)

pub returns-in-Ok-Reset : goal.returns-in-Ok-Reset
returns-in-Ok-Reset c =
    says c.jobs_are_turns.ensures _ _ _ _ c.loop-machine.invariant c.in-Ok.ensures.silent (Reset c.in-Ok-Reset.kind c.in-Ok-Reset.status) (rw c.in-Ok-Reset.field-0-is at c.in-Ok-Reset.ensures.turn)
    (λ (e : Reset c.in-Ok-Reset.kind c.in-Ok-Reset.status ≡ Turned). cc)

pub returns-in-Ok-Halted : goal.returns-in-Ok-Halted
returns-in-Ok-Halted c =
    says c.jobs_are_turns.ensures _ _ _ _ c.loop-machine.invariant c.in-Ok.ensures.silent (Halted c.in-Ok-Halted.halt) (rw c.in-Ok-Halted.field-0-is at c.in-Ok-Halted.ensures.turn)
    (λ (e : Halted c.in-Ok-Halted.halt ≡ Turned). cc)
