-- What the code's own functions come to.
use Rattle.std.specs.Prelude.{ℕ, ◌≡◌, ◌+◌, ◌-◌, ◌*◌, Option, Some, None, if◌then◌else◌}
use Rattle.event_queue.specs.declared.event.Notify.{Notify}
use Rattle.firmware_core.specs.declared.happened.Halt.{Halt}
use Rattle.firmware_core.specs.declared.happened.Happened.{Happened}
use Rattle.firmware_core.specs.declared.happened.Happened.TheVariants.{Turned}
use Rattle.firmware_core.specs.Frames.{tick_is_due, notice_of}
use Rattle.firmware_core.specs.Turns.{State, Turn, notice_turn, stopped}
use Rattle.firmware_core.specs.Jobs.{steps_left}

-- the turn of an instruction that was carried out, or that halts
abbrev pub turn_by : Option Halt → State → Turn
turn_by None state = record { happened = Turned; state = state }
turn_by (Some halt) state = stopped halt state

-- the turn that a notification makes
abbrev pub IsNotice : Option Notify → Happened → State → State → Type 0
IsNotice None happened old new = ⊥
IsNotice (Some notify) happened old new = record { happened = happened; state = new } ≡ notice_turn notify old

-- A notification came next and so started, or none came and nothing has changed.
abbrev pub NoticeTurned : Option Happened → State → State → Type 0
NoticeTurned None old new = (notice_of old.firmware ≡ None) × (new ≡ old)
NoticeTurned (Some happened) old new = IsNotice (notice_of old.firmware) happened old new

-- How far a job is from its end: each turn that doesn't end it brings this down.
abbrev pub due : State → ℕ
due s = if tick_is_due s.firmware then 1 else 0

abbrev pub potential : State → ℕ
potential s = 33 * steps_left s + (31 - s.firmware.hart.tpl) + due s
