-- What turns come to, one after another.
use Rattle.std.specs.Prelude.{ℕ, zero, suc, ◌≡◌, ◌≤◌, List, [], ◌∷◌, length, Bool, true, false}
use Rattle.std.specs.List.{filter}
use Rattle.event_queue.specs.Queue.{Whole}
use Rattle.firmware_core.specs.declared.happened.Happened.TheVariants.{Turned}
use Rattle.firmware_core.specs.Turns.{State, Next, Tick, Notice, Bound, Return, Slot, Instruction, next_turn, turn_of}
use Rattle.firmware_core.specs.Jobs.{counts, goes_on}

-- ---- between two counted steps

-- A turn that counts no step, and that the job goes on behind: the next one of a state, whose events are whole as those of each
-- machine are.
pub record FreeTurn (next : Next) (s : State) : Type 0 where
  pub whole : Whole s.firmware.events
  pub is : next_turn s ≡ next
  pub free : counts next ≡ false
  pub turned : (turn_of s).happened ≡ Turned

-- Such turns lead from one state to another.
abbrev pub FreeTurns : List Next → State → State → Type 0
FreeTurns [] old new = new ≡ old
FreeTurns (next ∷ more) old new = FreeTurn next old × FreeTurns more (turn_of old).state new

abbrev pub is_tick : Next → Bool
is_tick Tick = true
is_tick (Notice notify) = false
is_tick Bound = false
is_tick Return = false
is_tick (Slot slot) = false
is_tick Instruction = false

abbrev pub is_start : Next → Bool
is_start Tick = false
is_start (Notice notify) = true
is_start Bound = false
is_start Return = false
is_start (Slot slot) = false
is_start Instruction = false

-- One is a tick at most, and at most 26 are starts of a notification: each raises the level, within 5 to 30.
pub record AreFew (turns : List Next) : Type 0 where
  pub ticks : length (filter is_tick turns) ≤ 1
  pub starts : length (filter is_start turns) ≤ 26

abbrev pub FreeTurnsAreFew : Type 0
FreeTurnsAreFew = (turns : List Next) (old new : State) → FreeTurns turns old new → AreFew turns

-- ---- the end of a job

-- So many turns that a job goes on behind lead from one state to another.
abbrev pub GoesOn : ℕ → State → State → Type 0
GoesOn zero old new = new ≡ old
GoesOn (suc more) old new = (goes_on (turn_of old).happened ≡ true) × GoesOn more (turn_of old).state new

-- Behind so many of them comes one that ends the job.
pub record Ends (s : State) : Type 0 where
  pub turns : ℕ
  pub last : State
  pub going : GoesOn turns s last
  pub end : goes_on (turn_of last).happened ≡ false

abbrev pub JobsEnd : Type 0
JobsEnd = (s : State) → s.steps ≤ s.bound → Ends s
