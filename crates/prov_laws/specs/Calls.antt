-- How calls end in two runs.
use Rattle.std.specs.Prelude.{ℕ, zero, suc, ◌≡◌, ◌==◌, List, [], Option, Some, None, if◌then◌else◌, slice_index}
use Rattle.rv_step.specs.Exec.{Rights, State, step_of}
use Rattle.prov_runs.specs.States.{Related}
use Rattle.prov_runs.specs.Steps.{Runs, reached}
use Rattle.prov_runs.specs.StepLaws.{AtSomeNode}
use Rattle.provenance_check.specs.Ground.{Ground}
use Rattle.provenance_check.specs.Reached.{MarksReached}
use Rattle.prov_laws.specs.Checked.{AreRunsOf, NoneFails, calls, runs_of}
use Rattle.prov_laws.specs.Entries.{HasWindow}

-- A call returns with a value behind so many steps, traps behind so many, or is stopped at its bound.
pub data CallEnd : Type 0 where
  Returned : (value steps : ℕ) (state : State) → CallEnd
  Trapped : (steps : ℕ) → CallEnd
  Bounded : (state : State) → CallEnd

abbrev pub step_more : CallEnd → CallEnd
step_more (Returned value steps state) = Returned value (suc steps) state
step_more (Trapped steps) = Trapped (suc steps)
step_more (Bounded state) = Bounded state

abbrev pub step_on : (State → CallEnd) → Option State → CallEnd
step_on on None = Trapped 0
step_on on (Some to) = step_more (on to)

-- a call to its end, at the OS return page, in at most so many steps
unfoldable pub call_of : Rights → (home : ℕ) → (bound : ℕ) → State → CallEnd
call_of allows home zero s = Bounded s
call_of allows home (suc more) s = if s.pc == home then Returned (slice_index s.x 10) 0 s else step_on (call_of allows home more) (reached (step_of allows s))

-- Both return with one value behind equally many steps, or both are stopped at the bound; and they share what they shared.
abbrev pub EndAlike : Runs → (x y : CallEnd) → Type 0
EndAlike u (Returned v m s) (Returned w n t) = (v ≡ w) × (m ≡ n) × Related u.regions u.laid u.done u.image s t
EndAlike u (Bounded s) (Bounded t) = Related u.regions u.laid u.done u.image s t
EndAlike u _ _ = ⊥

-- Where no rule of a node fails, a call that both runs make ends alike.
abbrev pub CallsEndAlike : Type 0
CallsEndAlike = (g : Ground) (old new : ℕ → ℕ) (allows others : Rights) (entries : List ℕ) (bound : ℕ) (s t : State)
    → AreRunsOf g old new allows others → HasWindow g → MarksReached g.nodes entries g.called → NoneFails g allows
    → AtSomeNode (runs_of g old new [] allows others) (calls g) s t
    → EndAlike (runs_of g old new [] allows others) (call_of allows (old 3) bound s) (call_of others (new 3) bound t)
