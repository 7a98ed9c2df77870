-- What the execution of bytes in a flat memory comes to.
use Rattle.std.specs.Prelude.{ℕ, zero, suc, ◌+◌, ◌≡◌, ◌<◌, List, replicate}
use Rattle.rv_step.specs.declared.ends.Trap.{Trap}
use Rattle.rv_step.specs.Exec.{State, Outcome, Went, Stored, Stopped, Rights, step_of}
use Rattle.host_engine.specs.FlatMemories.{base, flat_bytes, flat_rights}

-- Why an execution is over: all steps that it may make are made, or the next instruction traps.
pub data Cause : Type 0 where
  Bound : Cause
  Trapped : (trap : Trap) → Cause

-- how an execution ends: why, in which state, and after how many steps
pub record End : Type 0 where
  pub cause : Cause
  pub state : State
  pub steps : ℕ

-- the same end, reached by one step more
abbrev pub one_later : End → End
one_later end = record { cause = end.cause; state = end.state; steps = end.steps + 1 }

-- An execution from a state whose next instruction comes to this, and that goes on so from the state behind it.
abbrev pub goes_on : State → (State → End) → Outcome → End
goes_on state rest (Went to) = one_later (rest to)
goes_on state rest (Stored at width value to) = one_later (rest to)
goes_on state rest (Stopped trap) = record { cause = Trapped trap; state = state; steps = 0 }

-- the execution of at most so many steps from a state
unfoldable pub executed : Rights → ℕ → State → End
executed allows zero state = record { cause = Bound; state = state; steps = 0 }
executed allows (suc more) state = goes_on state (λ to. executed allows more to) (step_of allows state)

-- the file at the base of the flat memory, the program counter at its first byte, and every register 0
abbrev pub start : List ℕ → State
start file = record { x = replicate 32 0; pc = base; bytes = flat_bytes file }

unfoldable pub flat_end : List ℕ → ℕ → End
flat_end file bound = executed flat_rights bound (start file)

-- An instruction that doesn't trap leads from one state to the next.
abbrev pub IsStep : Outcome → State → Type 0
IsStep (Went to) next = next ≡ to
IsStep (Stored at width value to) next = next ≡ to
IsStep (Stopped trap) next = ⊥

-- So many instructions, none of which traps, lead from one state to another.
abbrev pub AreSteps : Rights → ℕ → State → State → Type 0
AreSteps allows zero state last = last ≡ state
AreSteps allows (suc more) state last = (next : State) × IsStep (step_of allows state) next × AreSteps allows more next last

-- An execution of at most `bound` steps may end for this cause in this state.
abbrev pub IsCause : Rights → ℕ → Cause → State → ℕ → Type 0
IsCause allows bound Bound state steps = steps ≡ bound
IsCause allows bound (Trapped trap) state steps = (steps < bound) × (step_of allows state ≡ Stopped trap)

-- The instructions up to an execution's end don't trap, and it ends at its bound, or before that at an instruction that traps.
abbrev pub ExecutionsEnd : Type 0
ExecutionsEnd = (allows : Rights) (bound : ℕ) (state : State) →
    AreSteps allows (executed allows bound state).steps state (executed allows bound state).state
    × IsCause allows bound (executed allows bound state).cause (executed allows bound state).state (executed allows bound state).steps
