-- Code runs, and memory is written.
use Rattle.std.proofs.Common.{◌≡◌, ℕ, Bool, true, false, List, refl, ap, subst, sym, Some, None}
use Rattle.std.specs.Prelude.{Option, if◌then◌else◌}
use Rattle.rv_step.specs.declared.ends.StepEnd.{StepEnd}
use Rattle.rv_step.specs.declared.ends.StepEnd.TheVariants as ends
use Rattle.guest_memory.specs.Pages.{Pages}
use Rattle.address_view.specs.Stored.{stored}
use Rattle.virtual_map.specs.States.{Runtime, SameParts}
use Rattle.virtual_map.specs.Instructions.{Carried, carried, CarriesOut}
use Rattle.runtime_turn.specs.declared.call.RtEnd.{RtEnd}
use Rattle.runtime_turn.specs.declared.call.RtEnd.TheVariants as turns
use Rattle.runtime_turn.specs.Turns.{Turned, returns_seen, slot_seen, by_slot, turn_of, TurnEnds}
use Rattle.map_transition.specs.Laws.{StayTouched, WholeStays, InstructionsKeepTouched}
use Rattle.runtime_whole.specs.Laws.{InstructionsKeep, InstructionsStayWhole, StoresKeep, TurnsStayWhole, StoresStayWhole}
use Rattle.runtime_whole.proofs.MarkLemmas.{stored_keeps, stored_parts}
use Rattle.runtime_whole.proofs.BootLemmas.{writes}

-- ---- stores

only_bytes : (r : Runtime) (m : Pages) → m.base ≡ r.memory.base → m.pages ≡ r.memory.pages → SameParts r (record r { memory = m })
only_bytes r m base count = record { layout = refl; base = base; count = count; map = refl; view = refl; descriptors = refl; kept = refl; notifies = refl; gone = refl; mapped = refl; os_virtual = refl; room = refl }

written : (r : Runtime) (shown : ℕ → Option ℕ) (at : ℕ) (bytes : List ℕ) → SameParts r (record r { memory = stored shown r.memory at bytes })
written r shown at bytes = let p = stored_parts shown r.memory at bytes in only_bytes r (stored shown r.memory at bytes) p.0 p.1

pub stores_keep : StoresKeep
stores_keep r images made shown at bytes b = writes r (record r { memory = stored shown r.memory at bytes }) images made b (written r shown at bytes) (stored_keeps shown r.memory at bytes)

pub stores_whole : WholeStays → StoresStayWhole
stores_whole law r shown at bytes w = law r (record r { memory = stored shown r.memory at bytes }) w (written r shown at bytes) (stored_keeps shown r.memory at bytes)

-- ---- instructions

behind : InstructionsKeepTouched → (x : List ℕ) (pc : ℕ) (r r2 : Runtime) → r2 ≡ (carried x pc r).runtime → StayTouched r.memory r2.memory
behind law x pc r r2 e = subst (λ (s : Runtime). StayTouched r.memory s.memory) (sym e) (law x pc r)

carried_out : InstructionsKeepTouched → (end : StepEnd) (x : List ℕ) (pc : ℕ) (r : Runtime) (x2 : List ℕ) (pc2 : ℕ) (r2 : Runtime) → CarriesOut end x pc r x2 pc2 r2 → StayTouched r.memory r2.memory
carried_out law ends.Next x pc r x2 pc2 r2 h = behind law x pc r r2 (ap (λ (c : Carried). c.runtime) h)
carried_out law (ends.Trap trap) x pc r x2 pc2 r2 h = behind law x pc r r2 (ap (λ (c : Carried). c.runtime) h)
carried_out law ends.Frames x pc r x2 pc2 r2 h = behind law x pc r r2 (ap (λ (c : Carried). c.runtime) h)
carried_out law ends.Memory x pc r x2 pc2 r2 h = h.1.memory.kept

pub instructions_keep : InstructionsKeepTouched → InstructionsKeep
instructions_keep law end x pc r x2 pc2 r2 images made b same h = writes r r2 images made b same (carried_out law end x pc r x2 pc2 r2 h)

pub instructions_whole : WholeStays → InstructionsKeepTouched → InstructionsStayWhole
instructions_whole stays law end x pc r x2 pc2 r2 w same h = stays r r2 w same (carried_out law end x pc r x2 pc2 r2 h)

-- ---- turns at run time

slot_turn : InstructionsKeepTouched → (slot : Option ℕ) (x : List ℕ) (pc : ℕ) (r : Runtime) → StayTouched r.memory (by_slot slot x pc r).runtime.memory
slot_turn law (Some slot) x pc r = λ page h. h
slot_turn law None x pc r = law x pc r

turned : InstructionsKeepTouched → (x : List ℕ) (pc : ℕ) (r : Runtime) → StayTouched r.memory (turn_of x pc r).runtime.memory
unfolding turn_of
turned law x pc r = by (returns_seen r pc)
  where
    by : (b : Bool) → StayTouched r.memory (if b then record { end = turns.Return; x = x; pc = pc; runtime = r } else by_slot (slot_seen r pc) x pc r).runtime.memory
    by true = λ page h. h
    by false = slot_turn law (slot_seen r pc) x pc r

turn_to : InstructionsKeepTouched → (x : List ℕ) (pc : ℕ) (r r2 : Runtime) → r2 ≡ (turn_of x pc r).runtime → StayTouched r.memory r2.memory
turn_to law x pc r r2 e = subst (λ (s : Runtime). StayTouched r.memory s.memory) (sym e) (turned law x pc r)

turn_ends : InstructionsKeepTouched → (end : RtEnd) (x : List ℕ) (pc : ℕ) (r : Runtime) (x2 : List ℕ) (pc2 : ℕ) (r2 : Runtime) → TurnEnds end x pc r x2 pc2 r2 → StayTouched r.memory r2.memory
turn_ends law turns.Next x pc r x2 pc2 r2 h = turn_to law x pc r r2 (ap (λ (t : Turned). t.runtime) h)
turn_ends law turns.Return x pc r x2 pc2 r2 h = turn_to law x pc r r2 (ap (λ (t : Turned). t.runtime) h)
turn_ends law (turns.Service slot) x pc r x2 pc2 r2 h = turn_to law x pc r r2 (ap (λ (t : Turned). t.runtime) h)
turn_ends law (turns.Trap trap) x pc r x2 pc2 r2 h = turn_to law x pc r r2 (ap (λ (t : Turned). t.runtime) h)
turn_ends law turns.Frames x pc r x2 pc2 r2 h = turn_to law x pc r r2 (ap (λ (t : Turned). t.runtime) h)
turn_ends law turns.Memory x pc r x2 pc2 r2 h = h.3.memory.kept

pub turns_whole : WholeStays → InstructionsKeepTouched → TurnsStayWhole
turns_whole stays law end x pc r x2 pc2 r2 w same h = stays r r2 w same (turn_ends law end x pc r x2 pc2 r2 h)
