use Rattle.std.proofs.Common.{◌≡◌, ◌≤◌, arith, refl, sym, ap, subst, ◌∙◌}
use Rattle.firmware_core.specs.Parts.{Parts}
use Rattle.firmware_core.specs.Turns.{State, halt_of}
use Rattle.firmware_core.proofs.TurnLemmas.{trap_leaves, frames_leave, next_is, none_by}
use Rattle.firmware_core.specs.Jobs.{SilentlyTo}
use Rattle.firmware_core.specs.Views.{potential}
use Rattle.firmware_core.proofs.SilentLemmas.{Silent, silent_at_first, silent_nearer, steps_below, goes_silently, trap_first, frames_first}
use Rattle.firmware_core.proofs.machine.Machine.run_plain.Goals as goal

pub loop-step-init : goal.loop-step-init
loop-step-init c =
    let steps : c.args.self.now.steps ≡ c.self.inside.steps = sym (ap (λ (s : State). s.steps) c.self.view_is) in
    record {
      silent = silent_at_first c.args.self.now;
      at = steps;
      bound = refl;
      last = c.requires.end;
      since = omega arith;
      up = λ e. (let none : ⊥ = omega arith in absurd none);
      quiet = c.requires.quiet;
      events = refl;
      level = refl;
      gone = refl;
      time = omega arith;
      first = λ e. refl;
      second = λ e. (let none : ⊥ = omega arith in absurd none);
    }

pub count-requires : goal.count-requires
count-requires c =
    let below = steps_below _ _ _ _ c.loop-step.invariant c.loop-step-test.true in
    let steps : c.self-in-loop-step.inside.steps ≡ c.loop-step.self.steps = ap (λ (s : State). s.steps) c.self-in-loop-step.view_is in
    let bound : c.self-in-loop-step.inside.bound ≡ c.loop-step.self.bound = ap (λ (s : State). s.bound) c.self-in-loop-step.view_is in
    omega arith

pub returns-in-Trap-clause-silent : goal.returns-in-Trap-clause-silent
returns-in-Trap-clause-silent c =
    subst (λ (s : State). SilentlyTo c.args.self.now s)
    (sym (ap (λ (f : Parts). record { firmware = f; steps = c.self-in-loop-step.inside.steps; bound = c.self-in-loop-step.inside.bound; trace = c.self-in-loop-step.inside.trace }) (trap_leaves _ _ _ _ c.in-Trap.is c.instruct.ensures) ∙ c.self-in-loop-step.view_is))
    c.loop-step.invariant.silent

pub returns-in-Trap-clause-nearer : goal.returns-in-Trap-clause-nearer
returns-in-Trap-clause-nearer c =
    subst (λ (s : State). potential s ≤ potential c.args.self.now)
    (sym (ap (λ (f : Parts). record { firmware = f; steps = c.self-in-loop-step.inside.steps; bound = c.self-in-loop-step.inside.bound; trace = c.self-in-loop-step.inside.trace }) (trap_leaves _ _ _ _ c.in-Trap.is c.instruct.ensures) ∙ c.self-in-loop-step.view_is))
    (silent_nearer _ _ _ _ c.loop-step.invariant)

pub returns-in-Trap-clause-one : goal.returns-in-Trap-clause-one
returns-in-Trap-clause-one c =
    λ one here none. trap_first _ _ _ _ (subst (λ (s : State). Silent c.args.self.now s c.loop-step.step c.args.end) (sym c.self-in-loop-step.view_is) c.loop-step.invariant) c.loop-step-test.true c.in-Trap.trap c.instruct.new.self
    c.halt_of.result c.in-Trap.ensures (c.halt_of.ensures ∙ ap (halt_of c.in-Trap.trap) c.pc-pc.ensures) one

pub returns-in-Frames-clause-silent : goal.returns-in-Frames-clause-silent
returns-in-Frames-clause-silent c =
    subst (λ (s : State). SilentlyTo c.args.self.now s)
    (sym (ap (λ (f : Parts). record { firmware = f; steps = c.self-in-loop-step.inside.steps; bound = c.self-in-loop-step.inside.bound; trace = c.self-in-loop-step.inside.trace }) (frames_leave _ _ _ c.in-Frames.is c.instruct.ensures) ∙ c.self-in-loop-step.view_is))
    c.loop-step.invariant.silent

pub returns-in-Frames-clause-nearer : goal.returns-in-Frames-clause-nearer
returns-in-Frames-clause-nearer c =
    subst (λ (s : State). potential s ≤ potential c.args.self.now)
    (sym (ap (λ (f : Parts). record { firmware = f; steps = c.self-in-loop-step.inside.steps; bound = c.self-in-loop-step.inside.bound; trace = c.self-in-loop-step.inside.trace }) (frames_leave _ _ _ c.in-Frames.is c.instruct.ensures) ∙ c.self-in-loop-step.view_is))
    (silent_nearer _ _ _ _ c.loop-step.invariant)

pub returns-in-Frames-clause-one : goal.returns-in-Frames-clause-one
returns-in-Frames-clause-one c =
    λ one here none. rw c.pc-pc.ensures (frames_first _ _ _ _ (subst (λ (s : State). Silent c.args.self.now s c.loop-step.step c.args.end) (sym c.self-in-loop-step.view_is) c.loop-step.invariant) c.loop-step-test.true c.instruct.new.self
    c.in-Frames.ensures one)

pub loop-step-preserved : goal.loop-step-preserved
loop-step-preserved c =
    let none = none_by _ c.if-is_some.ensures in
    goes_silently _ _ _ _ (subst (λ (s : State). Silent c.args.self.now s c.loop-step.step c.args.end) (sym c.self-in-loop-step.view_is) c.loop-step.invariant) c.loop-step-test.true c.instruct.new.self c.count.new.self
    (sym c.is_returning.ensures ∙ c.if-is_returning.false) (sym c.slot_at.ensures ∙ none) (next_is _ _ c.in-Next.ensures) c.count.ensures

pub returns-clause-nearer : goal.returns-clause-nearer
returns-clause-nearer c = silent_nearer _ _ _ _ c.loop-step.invariant
