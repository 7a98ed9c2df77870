-- A job: an image that is started or runtime code that is called, and its turns to the end.
use Rattle.std.specs.Prelude.{ℕ, zero, suc, ◌≡◌, ◌≢◌, ◌-◌, ◌<◌, ◌≤◌, List, [], ◌∷◌, length, Bool, true, false, Option, Some, None, if◌then◌else◌}
use Rattle.record_text.specs.declared.line.Line.{Line}
use Rattle.record_text.specs.declared.cause.Cause.TheVariants as causes
use Rattle.event_queue.specs.Queue.{EventList}
use Rattle.event_queue.specs.Timers.{ticked}
use Rattle.image_services.specs.Images.{Loaded, find_image}
use Rattle.firmware_core.specs.declared.frame.Purpose.TheVariants as purposes
use Rattle.firmware_core.specs.declared.happened.Happened.{Happened}
use Rattle.firmware_core.specs.declared.happened.Happened.TheVariants.{Turned, Said, Left, Trapped, Reset, Halted}
use Rattle.firmware_core.specs.declared.happened.JobEnd.{JobEnd}
use Rattle.firmware_core.specs.declared.happened.JobEnd.TheVariants as ends
use Rattle.firmware_core.specs.declared.job.Job as declared
use Rattle.firmware_core.specs.declared.job.Job.TheVariants.{Start, Call}
use Rattle.firmware_core.specs.Parts.{Parts}
use Rattle.firmware_core.specs.Frames.{tick_is_due, with_image, in_call, call_over}
use Rattle.firmware_core.specs.CallSpecs.{CallPlain}
use Rattle.firmware_core.specs.RuntimeCalls.{with_runtime_call}
use Rattle.firmware_core.specs.Turns.{State, Turn, Next, Tick, Notice, Bound, Return, Slot, Instruction, next_turn, bound_halt, turn_of}

-- ---- the beginning

-- the machine with the image of a handle that begins at its entry point, on the boot stack, for at most so many steps
unfoldable pub started : State → ℕ → ℕ → ℕ → State
started s handle entry bound = record { firmware = with_image s.firmware (purposes.Job handle) handle s.firmware.runtime.layout.boot entry; steps = 0; bound = bound; trace = s.trace }

-- whether a job begins, and the machine behind that
pub record Begun : Type 0 where
  pub begins : Bool
  pub state : State

-- the entry point of an image that is loaded and wasn't started: an image begins once
abbrev pub fresh_entry : Option Loaded → Option ℕ
fresh_entry None = None
fresh_entry (Some image) = if image.started then None else Some image.entry

abbrev pub start_at : State → ℕ → ℕ → Option ℕ → Begun
start_at s handle bound None = record { begins = false; state = s }
start_at s handle bound (Some entry) = record { begins = true; state = started s handle entry bound }

-- the machine with a call of runtime code that begins
unfoldable pub called : State → CallPlain → State
called s call = record { firmware = with_runtime_call s.firmware call; steps = 0; bound = call.bound; trace = s.trace }

-- Once boot services are over, no image begins, and before none is called. (UEFI 2.10, 7.4.6: ExitBootServices)
unfoldable pub begun : State → declared.Job → Begun
begun s (Start handle bound) =
    if s.firmware.runtime.gone then record { begins = false; state = s }
    else start_at s handle bound (fresh_entry (find_image s.firmware.images handle))
begun s (Call call) = if s.firmware.runtime.gone then record { begins = true; state = called s call } else record { begins = false; state = s }

-- ---- turns that count no step

-- a tick and the start of a notification count none
abbrev pub counts : Next → Bool
counts Tick = false
counts (Notice notify) = false
counts Bound = true
counts Return = true
counts (Slot slot) = true
counts Instruction = true

abbrev pub or_next : Turn → Happened → Turn → Turn
or_next turn Turned rest = rest
or_next turn happened rest = turn

-- what happens in the turns before the next one that counts a step, of which there are at most so many
unfoldable pub uncounted : ℕ → State → Turn
uncounted zero s = record { happened = Turned; state = s }
uncounted (suc more) s = if counts (next_turn s) then record { happened = Turned; state = s } else or_next (turn_of s) (turn_of s).happened (uncounted more (turn_of s).state)

-- the events behind the tick that is due, if one is
abbrev pub events_behind : Parts → EventList
events_behind f = if tick_is_due f then ticked f.events f.time else f.events

-- There is one tick at most, and each notification that starts leaves the queue.
abbrev pub most_uncounted : State → ℕ
most_uncounted s = suc (length (events_behind s.firmware).queue)

unfoldable pub settled : State → Turn
settled s = uncounted (most_uncounted s) s

-- ---- the turns

-- what a job says, how it ends, and the machine behind it
pub record Job : Type 0 where
  pub lines : List Line
  pub end : JobEnd
  pub state : State

abbrev pub said_before : Line → Job → Job
said_before line job = record { lines = line ∷ job.lines; end = job.end; state = job.state }

-- what happened in a turn, and the rest of the job where that doesn't end it
abbrev pub joined : Happened → State → Job → Job
joined Turned state rest = rest
joined (Said line) state rest = said_before line rest
joined (Left value steps) state rest = record { lines = []; end = ends.Left value steps; state = state }
joined (Trapped cause steps) state rest = record { lines = []; end = ends.Trapped cause steps; state = state }
joined (Reset kind status) state rest = record { lines = []; end = ends.Reset kind status; state = state }
joined (Halted halt) state rest = record { lines = []; end = ends.Halted halt; state = state }

-- the end of a job whose bound is reached: it ends a call of runtime code, and else the run
abbrev pub at_bound : State → Job
at_bound s =
    if in_call s.firmware then record { lines = []; end = ends.Trapped causes.Bound s.steps; state = record s { firmware = call_over s.firmware } }
    else record { lines = []; end = ends.Halted (bound_halt s.firmware); state = s }

-- a job of at most so many counted turns, each behind those that count no step
unfoldable pub turns_of : ℕ → State → Job
turns_of zero s = joined (settled s).happened (settled s).state (at_bound (settled s).state)
turns_of (suc more) s = joined (settled s).happened (settled s).state (joined (turn_of (settled s).state).happened (turn_of (settled s).state).state (turns_of more (turn_of (settled s).state).state))

-- the steps that are left to the job
abbrev pub steps_left : State → ℕ
steps_left s = s.bound - s.steps

-- The job from here on. Where no step is left, the bound ends it.
abbrev pub job_of : State → Job
job_of s = turns_of (steps_left s) s

-- A job is its next turn, and the rest of it.
abbrev pub JobsAreTurns : Type 0
JobsAreTurns = (s : State) → s.steps ≤ s.bound → job_of s ≡ joined (turn_of s).happened (turn_of s).state (job_of (turn_of s).state)

-- ---- turns that say nothing

-- So many turns that say nothing lead from one state to another.
abbrev pub Silently : ℕ → State → State → Type 0
Silently zero old new = new ≡ old
Silently (suc more) old new = ((turn_of old).happened ≡ Turned) × Silently more (turn_of old).state new

abbrev pub SilentlyTo : State → State → Type 0
SilentlyTo old new = (turns : ℕ) × Silently turns old new

-- whether a job goes on behind what happened
abbrev pub goes_on : Happened → Bool
goes_on Turned = true
goes_on (Said line) = true
goes_on (Left value steps) = false
goes_on (Trapped cause steps) = false
goes_on (Reset kind status) = false
goes_on (Halted halt) = false

-- The next turn that says a line or ends the job leads from old to new: what the job says is that and the rest, of which fewer
-- steps are left.
pub record Says (happened : Happened) (old new : State) : Type 0 where
  pub before : State
  pub silent : SilentlyTo old before
  pub turn : turn_of before ≡ record { happened = happened; state = new }
  pub loud : happened ≢ Turned
  pub rest : job_of old ≡ joined happened new (job_of new)
  pub fewer : goes_on happened ≡ true → steps_left new < steps_left old
