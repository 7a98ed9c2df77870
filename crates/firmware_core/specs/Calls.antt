-- What a host may do in place of the service of a slot: answer it, or call guest code first.
use Rattle.std.specs.Prelude.{ℕ, ◌-◌, ◌^◌, ◌||◌, min, nat_lt, Bool, true, false, List, length, Option, Some, None, slice_get, slice_set, if◌then◌else◌}
use Rattle.page_alloc.specs.declared.layout.Layout.{Layout}
use Rattle.firmware_core.specs.declared.frame.Phase.TheVariants.{Called}
use Rattle.firmware_core.specs.declared.frame.Purpose.TheVariants.{Call}
use Rattle.firmware_core.specs.declared.happened.Happened.TheVariants.{Turned}
use Rattle.firmware_core.specs.declared.conclusion.Conclusion.TheVariants.{Answers}
use Rattle.firmware_core.specs.Parts.{Parts}
use Rattle.firmware_core.specs.Frames.{is_full, pushed, aligned_stack, registers_for}
use Rattle.firmware_core.specs.BootEnd.{exit_address, is_ending}
use Rattle.firmware_core.specs.Turns.{State, Turn, Next, Tick, Notice, Bound, Return, Slot, Instruction, next_turn, counted, comes_to}

-- ---- the slot that comes next

-- A job is under way from the frame of its image or its call on, up to the end of that frame, or where it ends boot services.
abbrev pub is_under_way : State → Bool
is_under_way s = nat_lt 0 (length s.firmware.frames) || is_ending (exit_address s.firmware.runtime.layout) s.firmware.hart

abbrev pub slot_of : Next → Option ℕ
slot_of Tick = None
slot_of (Notice notify) = None
slot_of Bound = None
slot_of Return = None
slot_of (Slot slot) = Some slot
slot_of Instruction = None

-- the slot whose service is the next turn of the job under way
unfoldable pub pending_slot : State → Option ℕ
pending_slot s = if is_under_way s then slot_of (next_turn s) else None

-- ---- the answer of a slot

abbrev pub answered_at : State → ℕ → Option ℕ → Turn
answered_at s value None = record { happened = Turned; state = s }
answered_at s value (Some slot) = comes_to slot s.firmware.hart.pc s (Answers value) s.firmware

-- the slot that comes next answers so, as by its service
unfoldable pub slot_answered : State → ℕ → Turn
slot_answered s value = answered_at s value (pending_slot s)

-- ---- a call of guest code

-- an argument, 0 behind the last
abbrev pub argument_or_zero : Option ℕ → ℕ
argument_or_zero None = 0
argument_or_zero (Some value) = value

abbrev pub call_argument : List ℕ → ℕ → ℕ
call_argument args n = argument_or_zero (slice_get args n)

-- What a call begins with: the arguments in a0 to a7, which are registers 10 to 17, the return to the firmware in ra, its stack
-- in sp, and every other register 0. (RISC-V psABI, integer calling convention)
abbrev pub call_registers : Layout → ℕ → List ℕ → List ℕ
call_registers layout sp args =
    slice_set (slice_set (slice_set (slice_set (slice_set (slice_set (registers_for layout sp (call_argument args 0) (call_argument args 1))
    12 (call_argument args 2)) 13 (call_argument args 3)) 14 (call_argument args 4)) 15 (call_argument args 5)) 16 (call_argument args 6)) 17 (call_argument args 7)

-- Guest code begins at an address, at the level of the slot and on its stack.
unfoldable pub with_call : Parts → ℕ → List ℕ → Parts
with_call f pc args = pushed f Call (record { x = call_registers f.runtime.layout (aligned_stack f) args; pc = pc; phase = Called; tpl = f.hart.tpl })

-- whether a call begins, and the machine behind that
pub record CallDone : Type 0 where
  pub begins : Bool
  pub state : State

-- It begins unless 64 frames stand, and counts a step.
unfoldable pub call_begun : State → ℕ → List ℕ → CallDone
call_begun s pc args = if is_full s.firmware then record { begins = false; state = s } else record { begins = true; state = counted s (with_call s.firmware pc args) }

-- ---- what the last call returned

-- a0 of the last call is taken once
abbrev pub without_returned : State → State
without_returned s = record s { firmware = record s.firmware { returned = None } }

-- ---- frames

abbrev pub frame_count : State → ℕ
frame_count s = min (length s.firmware.frames) (2 ^ 32 - 1)
