-- One step of an execution.
use Rattle.std.proofs.Common.{◌≡◌, ℕ, zero, suc, ◌+◌, ◌-◌, ◌<◌, ◌≤◌, Bool, refl, sym, ◌∙◌, ap, arith}
use Rattle.rv_step.specs.Exec.{State, Outcome, Went, Stored, Stopped, Rights, step_of}
use Rattle.rv_step.specs.Steps.{StepGives}
use Rattle.rv_step.specs.declared.ends.Trap.{Trap}
use Rattle.rv_step.specs.declared.ends.StepEnd.TheVariants as ends
use Rattle.std.proofs.Common.{List, replicate}
use Rattle.host_engine.specs.FlatMemories.{base, flat_bytes, flat_rights}
use Rattle.host_engine.specs.Executions.{executed, flat_end, goes_on, one_later, End, Cause, Trapped, Bound, IsStep, AreSteps, IsCause, ExecutionsEnd}

-- the same end, reached by so many steps more
abbrev pub later : ℕ → End → End
later count end = record { cause = end.cause; state = end.state; steps = end.steps + count }

later_one : (count : ℕ) (end : End) → later count (one_later end) ≡ later (count + 1) end
later_one count end = let e : end.steps + 1 + count ≡ end.steps + (count + 1) = omega arith in ap (λ n. record { cause = end.cause; state = end.state; steps = n }) e

none_later : (end : End) → later 0 end ≡ end
none_later end = let e : end.steps + 0 ≡ end.steps = omega arith in ap (λ n. record { cause = end.cause; state = end.state; steps = n }) e

by_next : (lacks sure : ℕ → ℕ → Bool) (rest : State → End) (out : Outcome) (old new : State) → StepGives lacks sure ends.Next out old new → goes_on old rest out ≡ one_later (rest new)
by_next lacks sure rest (Went to) old new h = ap (λ s. one_later (rest s)) (sym h)
by_next lacks sure rest (Stored at width value to) old new h = ap (λ s. one_later (rest s)) (sym h.0)
by_next lacks sure rest (Stopped trap) old new h = absurd h

by_trap : (lacks sure : ℕ → ℕ → Bool) (rest : State → End) (trap : Trap) (out : Outcome) (old new : State) → StepGives lacks sure (ends.Trap trap) out old new → goes_on old rest out ≡ record { cause = Trapped trap; state = new; steps = 0 }
by_trap lacks sure rest trap (Went to) old new h = absurd h
by_trap lacks sure rest trap (Stored at width value to) old new h = absurd h
by_trap lacks sure rest trap (Stopped why) old new h = cc

pub executed_next : (allows : Rights) (lacks sure : ℕ → ℕ → Bool) (bound steps : ℕ) (old new : State) → steps < bound → StepGives lacks sure ends.Next (step_of allows old) old new
    → later steps (executed allows (bound - steps) old) ≡ later (steps + 1) (executed allows (bound - (steps + 1)) new)
unfolding executed
executed_next allows lacks sure bound steps old new less h =
    let e : bound - steps ≡ suc (bound - (steps + 1)) = omega arith in
    rw e (ap (later steps) (by_next lacks sure (λ to. executed allows (bound - (steps + 1)) to) (step_of allows old) old new h) ∙ later_one steps (executed allows (bound - (steps + 1)) new))

pub executed_trap : (allows : Rights) (lacks sure : ℕ → ℕ → Bool) (bound steps : ℕ) (trap : Trap) (old new : State) → steps < bound → StepGives lacks sure (ends.Trap trap) (step_of allows old) old new
    → later steps (executed allows (bound - steps) old) ≡ record { cause = Trapped trap; state = new; steps = steps }
unfolding executed
executed_trap allows lacks sure bound steps trap old new less h =
    let e : bound - steps ≡ suc (bound - (steps + 1)) = omega arith in
    let none : 0 + steps ≡ steps = omega arith in
    rw e (ap (later steps) (by_trap lacks sure (λ to. executed allows (bound - (steps + 1)) to) trap (step_of allows old) old new h) ∙ ap (λ n. record { cause = Trapped trap; state = new; steps = n }) none)

pub executed_over : (allows : Rights) (bound steps : ℕ) (state : State) → bound ≤ steps → steps ≤ bound → later steps (executed allows (bound - steps) state) ≡ record { cause = Bound; state = state; steps = bound }
unfolding executed
executed_over allows bound steps state h1 h2 =
    let e : bound - steps ≡ 0 = omega arith in
    let same : 0 + steps ≡ bound = omega arith in rw e (ap (λ n. record { cause = Bound; state = state; steps = n }) same)

pub executed_begins : (allows : Rights) (bound : ℕ) (state : State) → later 0 (executed allows (bound - 0) state) ≡ executed allows bound state
executed_begins allows bound state = let e : bound - 0 ≡ bound = omega arith in none_later (executed allows (bound - 0) state) ∙ ap (λ n. executed allows n state) e

cause_later : (allows : Rights) (bound : ℕ) (cause : Cause) (state : State) (steps : ℕ) → IsCause allows bound cause state steps → IsCause allows (suc bound) cause state (steps + 1)
cause_later allows bound Bound state steps h = omega (arith, h)
cause_later allows bound (Trapped trap) state steps h = (omega (arith, h.0), h.1)

ends_by : (allows : Rights) (more : ℕ) (state : State) (out : Outcome) → step_of allows state ≡ out
    → ((next : State) → AreSteps allows (executed allows more next).steps next (executed allows more next).state × IsCause allows more (executed allows more next).cause (executed allows more next).state (executed allows more next).steps)
    → AreSteps allows (goes_on state (λ to. executed allows more to) out).steps state (goes_on state (λ to. executed allows more to) out).state
    × IsCause allows (suc more) (goes_on state (λ to. executed allows more to) out).cause (goes_on state (λ to. executed allows more to) out).state (goes_on state (λ to. executed allows more to) out).steps
ends_by allows more state (Went to) e rest =
    let one : (executed allows more to).steps + 1 ≡ suc (executed allows more to).steps = omega arith in
    let first : IsStep (step_of allows state) to = rw e refl in
    (rw one (to, first, (rest to).0), cause_later allows more _ _ _ (rest to).1)
ends_by allows more state (Stored at width value to) e rest =
    let one : (executed allows more to).steps + 1 ≡ suc (executed allows more to).steps = omega arith in
    let first : IsStep (step_of allows state) to = rw e refl in
    (rw one (to, first, (rest to).0), cause_later allows more _ _ _ (rest to).1)
ends_by allows more state (Stopped trap) e rest = (refl, (omega arith, e))

pub executions_end : ExecutionsEnd
unfolding executed
executions_end allows zero state = (refl, refl)
executions_end allows (suc more) state = ends_by allows more state (step_of allows state) refl (executions_end allows more)

-- an execution of bytes that are the file's is that of the file
pub flat_ended : (file : List ℕ) (bytes : ℕ → ℕ) (bound : ℕ) (end : End) → bytes ≡ flat_bytes file → end ≡ executed flat_rights bound (record { x = replicate 32 0; pc = base; bytes = bytes }) → end ≡ flat_end file bound
unfolding flat_end
flat_ended file bytes bound end e h = h ∙ ap (λ (b : ℕ → ℕ). executed flat_rights bound (record { x = replicate 32 0; pc = base; bytes = b })) e
