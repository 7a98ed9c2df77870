-- A run, a turn at a time.
use Rattle.std.proofs.Common.{◌≡◌, ◌<◌, ◌≤◌, ◌+◌, ◌-◌, ℕ, zero, suc, List, refl, sym, subst, arith, ◌⊎◌, inl, inr, ◌∙◌, ap}
use Rattle.std.specs.Prelude.{Option, Some, None, Result, Ok, Err}
use Rattle.memory_map.specs.declared.descriptor.Descriptor.{Descriptor}
use Rattle.virtual_map.specs.States.{Runtime}
use Rattle.runtime_turn.specs.declared.halt.Halt.{Halt}
use Rattle.runtime_turn.specs.declared.function.CallTurn.{CallTurn}
use Rattle.runtime_turn.specs.declared.function.CallTurn.TheVariants.{Goes, Returns, Halts, Memory}
use Rattle.runtime_turn.specs.Turns.{slot_seen}
use Rattle.runtime_turn.specs.declared.function.CallEnd.{CallEnd}
use Rattle.runtime_turn.specs.declared.function.CallEnd.TheVariants.{Halted, LacksMemory}
use Rattle.event_queue.specs.declared.event.Notify.{Notify}
use Rattle.map_faults.specs.Grounds.{Call}
use Rattle.map_faults.specs.Faults.{first_fault}
use Rattle.virtual_map.specs.States.{SameParts}
use Rattle.runtime_turn.specs.Functions.{Turned, Ran, function_turn, TurnGives, MayLack, goes_on, run_from, run_lacks, most_steps, RunEnds, RunGives, run_function, registers_for, ground_of}

-- what is left of a run that began elsewhere: it ends alike, and lacks memory only where that does
pub record Left (left : ℕ) (entries : List Descriptor) (x : List ℕ) (pc : ℕ) (r : Runtime) (x0 : List ℕ) (pc0 : ℕ) (r0 : Runtime) : Type 0 where
  pub same : run_from left entries x pc r ≡ run_from most_steps entries x0 pc0 r0
  pub lacks : run_lacks left entries x pc r → run_lacks most_steps entries x0 pc0 r0

pub begins : (entries : List Descriptor) (x : List ℕ) (pc : ℕ) (r : Runtime) → Left (most_steps - 0) entries x pc r x pc r
begins entries x pc r = record { same = refl; lacks = λ h. h }

module _ (entries : List Descriptor) (x : List ℕ) (pc : ℕ) (r : Runtime) (x0 : List ℕ) (pc0 : ℕ) (r0 : Runtime) where
  left_suc : (step : ℕ) → step < most_steps → most_steps - step ≡ suc (most_steps - (step + 1))
  left_suc step l = omega (arith, l)

  more_by : (n m : ℕ) → n ≡ suc m → Left n entries x pc r x0 pc0 r0 → Left (suc m) entries x pc r x0 pc0 r0
  more_by n m e h = subst (λ (k : ℕ). Left k entries x pc r x0 pc0 r0) e h

  at_turn : (step : ℕ) → step < most_steps → Left (most_steps - step) entries x pc r x0 pc0 r0 → Left (suc (most_steps - (step + 1))) entries x pc r x0 pc0 r0
  at_turn step l h = more_by (most_steps - step) (most_steps - (step + 1)) (left_suc step l) h

  pub went : (step : ℕ) (x2 : List ℕ) (pc2 : ℕ) (r2 : Runtime) → step < most_steps → Left (most_steps - step) entries x pc r x0 pc0 r0 → record { end = Goes; x = x2; pc = pc2; runtime = r2 } ≡ function_turn entries x pc r
      → Left (most_steps - (step + 1)) entries x2 pc2 r2 x0 pc0 r0
  unfolding run_from run_lacks
  went step x2 pc2 r2 l h e =
      let k = at_turn step l h in
      record {
        same = ap (λ (t : Turned). goes_on t.end (most_steps - (step + 1)) t.runtime (run_from (most_steps - (step + 1)) entries t.x t.pc t.runtime)) e ∙ k.same;
        lacks = λ z. k.lacks (inr (subst (λ (t : Turned). (t.end ≡ Goes) × run_lacks (most_steps - (step + 1)) entries t.x t.pc t.runtime) e (refl, z)));
      }

  pub returned : (step : ℕ) (x2 : List ℕ) (pc2 : ℕ) (r2 : Runtime) → step < most_steps → Left (most_steps - step) entries x pc r x0 pc0 r0 → record { end = Returns; x = x2; pc = pc2; runtime = r2 } ≡ function_turn entries x pc r
      → record { halt = None; steps = step + 1; runtime = r2 } ≡ run_from most_steps entries x0 pc0 r0
  unfolding run_from
  returned step x2 pc2 r2 l h e =
      let k = at_turn step l h in
      let steps : step + 1 ≡ most_steps - (most_steps - (step + 1)) = omega (arith, l) in
      ap (λ (n : ℕ). record { halt = None; steps = n; runtime = r2 }) steps
      ∙ ap (λ (t : Turned). goes_on t.end (most_steps - (step + 1)) t.runtime (run_from (most_steps - (step + 1)) entries t.x t.pc t.runtime)) e ∙ k.same

  pub stopped : (step : ℕ) (halt : Halt) (x2 : List ℕ) (pc2 : ℕ) (r2 : Runtime) → step < most_steps → Left (most_steps - step) entries x pc r x0 pc0 r0 → record { end = Halts halt; x = x2; pc = pc2; runtime = r2 } ≡ function_turn entries x pc r
      → record { halt = Some halt; steps = 0; runtime = r2 } ≡ run_from most_steps entries x0 pc0 r0
  unfolding run_from
  stopped step halt x2 pc2 r2 l h e =
      let k = at_turn step l h in
      ap (λ (t : Turned). goes_on t.end (most_steps - (step + 1)) t.runtime (run_from (most_steps - (step + 1)) entries t.x t.pc t.runtime)) e ∙ k.same

  pub lacking : (step : ℕ) → step < most_steps → Left (most_steps - step) entries x pc r x0 pc0 r0 → MayLack (slot_seen r pc) x pc r → run_lacks most_steps entries x0 pc0 r0
  unfolding run_lacks
  lacking step l h e = (at_turn step l h).lacks (inl e)

  pub bound : (step : ℕ) → most_steps ≤ step → Left (most_steps - step) entries x pc r x0 pc0 r0 → run_from zero entries x pc r ≡ run_from most_steps entries x0 pc0 r0
  bound step l h =
      let none : most_steps - step ≡ zero = omega (arith, l) in
      (subst (λ (k : ℕ). Left k entries x pc r x0 pc0 r0) none h).same

-- ---- what stays

pub same_refl : (r : Runtime) → SameParts r r
same_refl r = record { layout = refl; base = refl; count = refl; map = refl; view = refl; descriptors = refl; kept = refl; notifies = refl; gone = refl; mapped = refl; os_virtual = refl; room = refl }

pub same_then : (a b c : Runtime) → SameParts a b → SameParts b c → SameParts a c
same_then a b c h k = record {
  layout = k.layout ∙ h.layout;
  base = k.base ∙ h.base;
  count = k.count ∙ h.count;
  map = k.map ∙ h.map;
  view = k.view ∙ h.view;
  descriptors = k.descriptors ∙ h.descriptors;
  kept = k.kept ∙ h.kept;
  notifies = k.notifies ∙ h.notifies;
  gone = k.gone ∙ h.gone;
  mapped = k.mapped ∙ h.mapped;
  os_virtual = k.os_virtual ∙ h.os_virtual;
  room = k.room ∙ h.room;
}

pub accepted_then : (a b : Runtime) (call : Call) → SameParts a b → first_fault (ground_of a) call ≡ None → first_fault (ground_of b) call ≡ None
accepted_then a b call h e =
    let layout = h.layout in let descriptors = h.descriptors in let os_virtual = h.os_virtual in let kept = h.kept in let gone = h.gone in let mapped = h.mapped in
    rw (layout, descriptors, os_virtual, kept, gone, mapped) e

pub whole_run : (result : Result ℕ CallEnd) (entries : List Descriptor) (sp : ℕ) (notify : Notify) (r r2 : Runtime)
    → RunEnds result most_steps entries (registers_for r.layout sp notify) notify.function r r2 → RunGives result entries sp notify r r2
unfolding run_function
whole_run (Ok steps) entries sp notify r r2 h = h
whole_run (Err (Halted halt)) entries sp notify r r2 h = h
whole_run (Err LacksMemory) entries sp notify r r2 h = h
