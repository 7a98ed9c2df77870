-- One turn of the machine.
use Rattle.std.specs.Prelude.{ℕ, ◌+◌, ◌-◌, ◌*◌, ◌/◌, ◌%◌, ◌^◌, ◌==◌, ◌&&◌, ◌||◌, not, nat_le, min, Bool, true, false, Option, Some, None, if◌then◌else◌}
use Rattle.rv_step.specs.declared.bus.Access.TheVariants as access
use Rattle.rv_step.specs.declared.ends.Trap.{Trap}
use Rattle.rv_step.specs.declared.ends.Trap.TheVariants as traps
use Rattle.rv_step.specs.declared.ends.StepEnd.{StepEnd}
use Rattle.rv_step.specs.declared.ends.StepEnd.TheVariants as ends
use Rattle.record_text.specs.declared.cause.Cause.{Cause}
use Rattle.record_text.specs.declared.cause.Cause.TheVariants as causes
use Rattle.record_text.specs.declared.line.Line.TheVariants as lines
use Rattle.virtual_map.specs.Instructions.{Carried, carried}
use Rattle.firmware_core.specs.declared.happened.Halt.{Halt}
use Rattle.firmware_core.specs.declared.happened.Happened.{Happened}
use Rattle.firmware_core.specs.declared.happened.Happened.TheVariants.{Turned, Said, Left, Trapped, Reset, Halted}
use Rattle.firmware_core.specs.declared.conclusion.Conclusion.{Conclusion}
use Rattle.firmware_core.specs.declared.conclusion.Conclusion.TheVariants.{Answers, Prints, Continues, Leaves, Resets, Halts}
use Rattle.event_queue.specs.declared.event.Notify.{Notify}
use Rattle.firmware_core.specs.Parts.{Parts}
use Rattle.firmware_core.specs.Frames.{answered, tick_is_due, with_tick, notice_of, without_notice, is_full, with_notification, top_of, in_call, call_over, returns_to_slot}
use Rattle.firmware_core.specs.Services.{given}
use Rattle.firmware_core.specs.Slots.{serve_slot}

-- the parts, the job under way with its counted steps and their bound, and whether each answer of a service is a line
pub record State : Type 0 where
  pub firmware : Parts
  pub steps : ℕ
  pub bound : ℕ
  pub trace : Bool

-- what happens in a turn, and the state behind it
pub record Turn : Type 0 where
  pub happened : Happened
  pub state : State

-- the run is over
abbrev pub halted : Cause → ℕ → ℕ → Happened
halted cause pc at = Halted (record { cause = cause; pc = pc; at = at })

-- A step is counted, and a unit of time passes. A turn that halts counts none.
abbrev pub passed : Parts → Parts
passed f = record f { time = min (f.time + 1) (2 ^ 64 - 1) }

abbrev pub counted : State → Parts → State
counted s f = record { firmware = passed f; steps = s.steps + 1; bound = s.bound; trace = s.trace }

-- ---- a halt

-- Traps and the bound end a call of runtime code.
abbrev pub ends_call : Cause → Bool
ends_call causes.Illegal = true
ends_call causes.Ebreak = true
ends_call causes.Ecall = true
ends_call causes.Fetch = true
ends_call causes.Load = true
ends_call causes.Store = true
ends_call causes.Bound = true
ends_call causes.Idle = false
ends_call causes.Tpl = false
ends_call causes.BootGone = false
ends_call causes.Depth = false
ends_call causes.Frames = false

-- Such a halt ends the call that is under way, and every other one the run.
abbrev pub stopped : Halt → State → Turn
stopped halt s =
    if ends_call halt.cause && in_call s.firmware then record { happened = Trapped halt.cause s.steps; state = record s { firmware = call_over s.firmware } }
    else record { happened = Halted halt; state = s }

-- ---- which turn comes

-- Slot k begins 16 k bytes into the slot page. Slots 0 to 66 are services, but for 17, which is reserved, and slot 67 is
-- returned to.
abbrev pub is_slot : ℕ → Bool
is_slot offset = offset % 16 == 0 && (nat_le offset (16 * 67) && not (offset == 16 * 17))

-- Only what runs in a frame returns, and a call of runtime code doesn't return there.
abbrev pub can_return : Parts → ℕ → Bool
can_return f offset = not (offset == 16 * 67) || returns_to_slot (top_of f.frames)

abbrev pub offset_of : Parts → ℕ
offset_of f = f.hart.pc - f.runtime.layout.slots

-- the slot that the program counter is at
abbrev pub slot_at : Parts → Option ℕ
slot_at f = if nat_le f.runtime.layout.slots f.hart.pc && (is_slot (offset_of f) && can_return f (offset_of f)) then Some (offset_of f / 16) else None

-- A call of runtime code returns to the first byte of the operating system's return page.
abbrev pub is_returning : Parts → Bool
is_returning f = f.hart.pc == f.runtime.layout.os_return && in_call f

-- A tick comes, or the start of a notification; or the job's bound is reached; or the return of a call of runtime code comes, or
-- the service of a slot, or an instruction.
pub data Next : Type 0 where
  Tick : Next
  Notice : (notify : Notify) → Next
  Bound : Next
  Return : Next
  Slot : (slot : ℕ) → Next
  Instruction : Next

abbrev pub by_slot : Option ℕ → Next
by_slot None = Instruction
by_slot (Some slot) = Slot slot

-- a turn that counts a step, or the bound
abbrev pub counted_next : State → Next
counted_next s = if s.steps == s.bound then Bound else (if is_returning s.firmware then Return else by_slot (slot_at s.firmware))

abbrev pub by_notice : Option Notify → State → Next
by_notice (Some notify) s = Notice notify
by_notice None s = counted_next s

unfoldable pub next_turn : State → Next
next_turn s = if tick_is_due s.firmware then Tick else by_notice (notice_of s.firmware) s

-- ---- a tick and the start of a notification, which count no step and take no time

abbrev pub with_firmware : State → Parts → State
with_firmware s f = record s { firmware = f }

abbrev pub tick_turn : State → Turn
tick_turn s = record { happened = Turned; state = with_firmware s (with_tick s.firmware) }

-- A notification doesn't start where 64 frames stand: the run halts.
abbrev pub notice_turn : Notify → State → Turn
notice_turn notify s =
    if is_full s.firmware then record { happened = halted causes.Depth s.firmware.hart.pc 0; state = s }
    else record { happened = Turned; state = with_firmware s (with_notification (without_notice s.firmware) notify) }

-- ---- a service

-- An answer is a line where it is asked for.
abbrev pub told : State → ℕ → ℕ → Happened
told s slot a0 = if s.trace then Said (lines.Svc slot a0) else Turned

-- what is made of a service called at a slot and a program counter; a text that it prints is a line
abbrev pub comes_to : ℕ → ℕ → State → Conclusion → Parts → Turn
comes_to slot pc s (Answers a0) f = record { happened = told s slot a0; state = counted s (answered f a0) }
comes_to slot pc s (Prints text a0) f = record { happened = Said (lines.Console text); state = counted s (answered f a0) }
comes_to slot pc s Continues f = record { happened = Turned; state = counted s f }
comes_to slot pc s (Leaves value) f = record { happened = Left value (s.steps + 1); state = counted s f }
comes_to slot pc s (Resets kind status) f = record { happened = Reset kind status; state = record s { firmware = f } }
comes_to slot pc s (Halts cause) f = record { happened = halted cause pc 0; state = record s { firmware = f } }

unfoldable pub service_turn : ℕ → State → Turn
service_turn slot s = comes_to slot s.firmware.hart.pc s (serve_slot slot s.firmware).conclusion (serve_slot slot s.firmware).firmware

-- ---- the return of a call of runtime code

-- It leaves with its a0.
abbrev pub return_turn : State → Turn
return_turn s = record { happened = Left (given 0 s.firmware) (s.steps + 1); state = counted s (call_over s.firmware) }

-- ---- an instruction

-- A trap is a halt. An access that is refused names the first address without the right.
abbrev pub halt_of : Trap → ℕ → Halt
halt_of traps.Illegal pc = record { cause = causes.Illegal; pc = pc; at = 0 }
halt_of traps.Ebreak pc = record { cause = causes.Ebreak; pc = pc; at = 0 }
halt_of traps.Ecall pc = record { cause = causes.Ecall; pc = pc; at = 0 }
halt_of (traps.Fault at access.Load) pc = record { cause = causes.Load; pc = pc; at = at }
halt_of (traps.Fault at access.Store) pc = record { cause = causes.Store; pc = pc; at = at }
halt_of (traps.Fault at access.Fetch) pc = record { cause = causes.Fetch; pc = pc; at = at }

abbrev pub with_carried : Parts → Carried → Parts
with_carried f c = record f { hart = record f.hart { x = c.x; pc = c.pc }; runtime = c.runtime }

-- how an instruction ends, and the parts behind it
pub record Instructed : Type 0 where
  pub end : StepEnd
  pub firmware : Parts

unfoldable pub instructed : Parts → Instructed
instructed f = let c = carried f.hart.x f.hart.pc f.runtime in record { end = c.end; firmware = with_carried f c }

-- what is made of an instruction at a program counter; a defined one never lacks memory of the host, and the machine stops there
abbrev pub carried_out : ℕ → State → StepEnd → Parts → Turn
carried_out pc s ends.Next f = record { happened = Turned; state = counted s f }
carried_out pc s (ends.Trap trap) f = stopped (halt_of trap pc) (record s { firmware = f })
carried_out pc s ends.Frames f = record { happened = halted causes.Frames pc 0; state = record s { firmware = f } }
carried_out pc s ends.Memory f = record { happened = halted causes.Frames pc 0; state = record s { firmware = f } }

unfoldable pub instruction_turn : State → Turn
instruction_turn s = carried_out s.firmware.hart.pc s (instructed s.firmware).end (instructed s.firmware).firmware

-- ---- the turn

-- the halt of a job whose bound is reached
abbrev pub bound_halt : Parts → Halt
bound_halt f = record { cause = causes.Bound; pc = f.hart.pc; at = 0 }

abbrev pub by_next : Next → State → Turn
by_next Tick s = tick_turn s
by_next (Notice notify) s = notice_turn notify s
by_next Bound s = stopped (bound_halt s.firmware) s
by_next Return s = return_turn s
by_next (Slot slot) s = service_turn slot s
by_next Instruction s = instruction_turn s

-- A place in the slot page that is no slot can't be fetched from, so it is a fetch fault.
unfoldable pub turn_of : State → Turn
turn_of s = by_next (next_turn s) s
