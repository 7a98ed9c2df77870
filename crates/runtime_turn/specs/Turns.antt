-- One turn of code at run time: a return, a service's slot, or an instruction.
use Rattle.std.specs.Prelude.{ℕ, ◌≡◌, ◌*◌, ◌/◌, ◌%◌, ◌-◌, ◌==◌, ◌&&◌, not, nat_le, Bool, false, List, Option, Some, None, if◌then◌else◌}
use Rattle.rv_step.specs.declared.ends.StepEnd.{StepEnd}
use Rattle.rv_step.specs.declared.ends.StepEnd.TheVariants as ends
use Rattle.page_alloc.specs.declared.layout.Layout.{Layout}
use Rattle.address_view.specs.Windows.{see, at_place}
use Rattle.virtual_map.specs.States.{Runtime}
use Rattle.virtual_map.specs.Instructions.{Carried, carried, outcome_of, MayLackMemory, LeavesMarks}
use Rattle.runtime_turn.specs.declared.call.RtEnd.{RtEnd}
use Rattle.runtime_turn.specs.declared.call.RtEnd.TheVariants as turns

-- Slot k begins 16 k bytes into the slot page. Slots 0 to 66 are services, but for 17, which is reserved, and slot 67 is
-- returned to.
abbrev pub is_slot : ℕ → Bool
is_slot offset = offset % 16 == 0 && (nat_le offset (16 * 67) && not (offset == 16 * 17))

-- the slot that begins at a place of RAM
abbrev pub slot_of : Layout → ℕ → Option ℕ
slot_of layout place = if nat_le layout.slots place && is_slot (place - layout.slots) then Some ((place - layout.slots) / 16) else None

-- the slot that is seen at an address
unfoldable pub slot_seen : Runtime → ℕ → Option ℕ
slot_seen r at = at_place None (slot_of r.layout) (see r.view at)

-- the first byte of the page to which a call of the operating system returns is seen at an address
unfoldable pub returns_seen : Runtime → ℕ → Bool
returns_seen r at = at_place false (λ (place : ℕ). place == r.layout.os_return) (see r.view at)

-- how a turn ends, with the registers, the program counter and the state behind it
pub record Turned : Type 0 where
  pub end : RtEnd
  pub x : List ℕ
  pub pc : ℕ
  pub runtime : Runtime

abbrev pub end_by : StepEnd → RtEnd
end_by ends.Next = turns.Next
end_by (ends.Trap trap) = turns.Trap trap
end_by ends.Frames = turns.Frames
end_by ends.Memory = turns.Memory

abbrev pub by_carried : Carried → Turned
by_carried c = record { end = end_by c.end; x = c.x; pc = c.pc; runtime = c.runtime }

abbrev pub by_slot : Option ℕ → List ℕ → ℕ → Runtime → Turned
by_slot (Some slot) x pc r = record { end = turns.Service slot; x = x; pc = pc; runtime = r }
by_slot None x pc r = by_carried (carried x pc r)

-- A return and a service change nothing: their caller has to do what they ask for.
unfoldable pub turn_of : List ℕ → ℕ → Runtime → Turned
turn_of x pc r =
    if returns_seen r pc then record { end = turns.Return; x = x; pc = pc; runtime = r }
    else by_slot (slot_seen r pc) x pc r

-- A turn that ends so leads from old to new. Want of memory comes where an instruction's store may lack it alone.
abbrev pub TurnEnds : RtEnd → (x : List ℕ) → (pc : ℕ) → (r : Runtime) → (x2 : List ℕ) → (pc2 : ℕ) → (r2 : Runtime) → Type 0
TurnEnds turns.Memory x pc r x2 pc2 r2 = (returns_seen r pc ≡ false) × (slot_seen r pc ≡ None) × MayLackMemory r (outcome_of x pc r) × LeavesMarks x pc r x2 pc2 r2
TurnEnds end x pc r x2 pc2 r2 = record { end = end; x = x2; pc = pc2; runtime = r2 } ≡ turn_of x pc r
