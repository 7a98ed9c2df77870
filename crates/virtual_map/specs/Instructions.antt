-- One instruction over memory as code sees it.
use Rattle.std.specs.Prelude.{ℕ, List, false, if◌then◌else◌, ◌≡◌}
use Rattle.guest_memory.specs.Pages.{bytes_of, rights_at}
use Rattle.guest_memory.specs.Changes.{TouchedBesides}
use Rattle.address_view.specs.Windows.{see, seen_bytes}
use Rattle.address_view.specs.Seen.{view_allows}
use Rattle.address_view.specs.Stored.{store_seen, lacks_seen, all_touched}
use Rattle.rv_step.specs.declared.ends.StepEnd.{StepEnd}
use Rattle.rv_step.specs.declared.ends.StepEnd.TheVariants as ends
use Rattle.rv_step.specs.Exec.{Outcome, Went, Stored, Stopped, step_of}
use Rattle.rv_step.specs.Exec as exec
use Rattle.virtual_map.specs.States.{Runtime}

-- how an instruction ends, with the registers, the program counter and the state behind it
pub record Carried : Type 0 where
  pub end : StepEnd
  pub x : List ℕ
  pub pc : ℕ
  pub runtime : Runtime

-- what an instruction works on: the registers, the program counter, and the bytes that are seen
abbrev pub seen_by : List ℕ → ℕ → Runtime → exec.State
seen_by x pc r = record { x = x; pc = pc; bytes = seen_bytes (see r.view) (bytes_of r.memory) }

-- A store that would touch more pages than there are frames isn't made. What traps changes nothing.
abbrev pub comes_to : List ℕ → ℕ → Runtime → Outcome → Carried
comes_to x pc r (Went to) = record { end = ends.Next; x = to.x; pc = to.pc; runtime = r }
comes_to x pc r (Stored at width value to) =
    if lacks_seen (see r.view) r.memory at width then record { end = ends.Frames; x = x; pc = pc; runtime = r }
    else record { end = ends.Next; x = to.x; pc = to.pc; runtime = record r { memory = store_seen (see r.view) r.memory at width value } }
comes_to x pc r (Stopped trap) = record { end = ends.Trap trap; x = x; pc = pc; runtime = r }

-- what the instruction at a program counter asks for
abbrev pub outcome_of : List ℕ → ℕ → Runtime → Outcome
outcome_of x pc r = step_of (view_allows (see r.view) (rights_at r.memory)) (seen_by x pc r)

-- the instruction at a program counter, where the host has memory for it: so it never ends for want of memory
unfoldable pub carried : List ℕ → ℕ → Runtime → Carried
carried x pc r = comes_to x pc r (outcome_of x pc r)

-- Memory of the host may be wanting for a store alone, to a page that wasn't touched, where there are frames enough.
abbrev pub MayLackMemory : Runtime → Outcome → Type 0
MayLackMemory r (Went to) = ⊥
MayLackMemory r (Stored at width value to) = (lacks_seen (see r.view) r.memory at width ≡ false) × (all_touched (see r.view) r.memory at width ≡ false)
MayLackMemory r (Stopped trap) = ⊥

-- registers and program counter are as they were, and so is memory but for pages that are touched besides
pub record LeavesMarks (x : List ℕ) (pc : ℕ) (r : Runtime) (x2 : List ℕ) (pc2 : ℕ) (r2 : Runtime) : Type 0 where
  pub registers : x2 ≡ x
  pub counter : pc2 ≡ pc
  pub memory : TouchedBesides r.memory r2.memory

-- An instruction that ends so leads from old to new.
abbrev pub CarriesOut : StepEnd → (x : List ℕ) → (pc : ℕ) → (r : Runtime) → (x2 : List ℕ) → (pc2 : ℕ) → (r2 : Runtime) → Type 0
CarriesOut ends.Memory x pc r x2 pc2 r2 = MayLackMemory r (outcome_of x pc r) × LeavesMarks x pc r x2 pc2 r2
CarriesOut end x pc r x2 pc2 r2 = record { end = end; x = x2; pc = pc2; runtime = r2 } ≡ carried x pc r
