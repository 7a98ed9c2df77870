-- What `step` answers.
use Rattle.std.specs.Prelude.{ℕ, ◌≡◌, Bool, true, false}
use Rattle.rv_step.specs.declared.ends.StepEnd.{StepEnd}
use Rattle.rv_step.specs.declared.ends.StepEnd.TheVariants as ends
use Rattle.rv_step.specs.declared.regs.Regs.{Regs}
use Rattle.rv_step.specs.Exec.{State, Outcome, Went, Stored, Stopped}

abbrev pub state_of : Regs → (ℕ → ℕ) → State
state_of regs bytes = record { x = regs.x; pc = regs.pc; bytes = bytes }

-- A step that ends so leads from old to new, where this is what the instruction comes to. Some stores lack
-- frames, and some surely take no memory.
abbrev pub StepGives : (lacks sure : ℕ → ℕ → Bool) → StepEnd → Outcome → State → State → Type 0
StepGives lacks sure ends.Next (Went to) old new = new ≡ to
StepGives lacks sure ends.Next (Stored at width value to) old new = (new ≡ to) × (lacks at width ≡ false)
StepGives lacks sure ends.Next (Stopped trap) old new = ⊥
StepGives lacks sure (ends.Trap trap) (Went to) old new = ⊥
StepGives lacks sure (ends.Trap trap) (Stored at width value to) old new = ⊥
StepGives lacks sure (ends.Trap trap) (Stopped why) old new = (trap ≡ why) × (new ≡ old)
StepGives lacks sure ends.Frames (Went to) old new = ⊥
StepGives lacks sure ends.Frames (Stored at width value to) old new = (lacks at width ≡ true) × (new ≡ old)
StepGives lacks sure ends.Frames (Stopped trap) old new = ⊥
StepGives lacks sure ends.Memory (Went to) old new = ⊥
StepGives lacks sure ends.Memory (Stored at width value to) old new = (lacks at width ≡ false) × (sure at width ≡ false) × (new ≡ old)
StepGives lacks sure ends.Memory (Stopped trap) old new = ⊥

-- What a step that ends so makes of the bus's content, where `after` is the content after a store. After want of memory it is
-- kept but for what isn't seen.
abbrev pub StepKeeps : {C : Type 0} → (kept : C → C → Type 0) → (after : ℕ → ℕ → ℕ → C) → StepEnd → Outcome → (old new : C) → Type 0
StepKeeps kept after ends.Next (Went to) old new = new ≡ old
StepKeeps kept after ends.Next (Stored at width value to) old new = new ≡ after at width value
StepKeeps kept after ends.Next (Stopped trap) old new = ⊥
StepKeeps kept after (ends.Trap trap) outcome old new = new ≡ old
StepKeeps kept after ends.Frames outcome old new = new ≡ old
StepKeeps kept after ends.Memory outcome old new = kept old new
