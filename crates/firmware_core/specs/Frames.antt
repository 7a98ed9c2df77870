-- Ticks, the start of notifications and of images, and frames.
use Rattle.std.specs.Prelude.{ℕ, ◌≡◌, ◌≤◌, ◌+◌, ◌-◌, ◌*◌, ◌%◌, ◌&&◌, not, nat_le, Bool, true, false, List, [], ◌∷◌, ◌++◌, length, take, replicate, Option, Some, None, slice_get, slice_index, slice_set}
use Rattle.page_alloc.specs.declared.layout.Layout.{Layout}
use Rattle.event_queue.specs.declared.event.Notify.{Notify}
use Rattle.event_queue.specs.Queue.{next_entry, notified, after_next}
use Rattle.event_queue.specs.Timers.{has_moment, ticked, moment_ahead}
use Rattle.image_services.specs.Images.{with_started}
use Rattle.firmware_core.specs.declared.frame.Phase.TheVariants.{Called}
use Rattle.firmware_core.specs.declared.frame.Purpose.{Purpose}
use Rattle.firmware_core.specs.declared.frame.Purpose.TheVariants.{Job, Image, Call, Runtime, Notification}
use Rattle.firmware_core.specs.declared.frame.Frame.{Frame}
use Rattle.firmware_core.specs.Harts.{Hart}
use Rattle.firmware_core.specs.Parts.{Parts}

-- ---- ticks

-- While boot services last: a tick moment lies above the last tick and at most at the present.
abbrev pub tick_is_due : Parts → Bool
tick_is_due f = not f.runtime.gone && has_moment f.events f.time

-- Each timer that is due signals its event.
abbrev pub with_tick : Parts → Parts
with_tick f = record f { events = ticked f.events f.time }

-- ---- frames

-- 64 frames stand, the most by this host's choice.
abbrev pub is_full : Parts → Bool
is_full f = nat_le 64 (length f.frames)

-- Code begins, and its caller is kept.
abbrev pub pushed : Parts → Purpose → Hart → Parts
pushed f purpose hart = record f { hart = hart; frames = f.frames ++ record { purpose = purpose; back = f.hart } ∷ [] }

-- the innermost frame, and those before it
abbrev pub top_of : List Frame → Option Frame
top_of frames = slice_get frames (length frames - 1)

abbrev pub below_top : List Frame → List Frame
below_top frames = take (length frames - 1) frames

-- whether what began is a call of runtime code by the operating system
abbrev pub is_runtime : Purpose → Bool
is_runtime (Job handle) = false
is_runtime (Image handle) = false
is_runtime Call = false
is_runtime Runtime = true
is_runtime Notification = false

abbrev pub of_runtime : Option Frame → Bool
of_runtime None = false
of_runtime (Some frame) = is_runtime frame.purpose

-- A call of runtime code is under way: its frame is the outermost.
abbrev pub in_call : Parts → Bool
in_call f = of_runtime (slice_get f.frames 0)

-- It is over: no frame stands.
abbrev pub call_over : Parts → Parts
call_over f = record f { frames = [] }

-- What runs in a frame returns to the slot behind the services, but for a call of runtime code.
abbrev pub returns_to_slot : Option Frame → Bool
returns_to_slot None = false
returns_to_slot (Some frame) = not (is_runtime frame.purpose)

-- Code returns to the slot behind the services.
abbrev pub return_address : Layout → ℕ
return_address layout = layout.slots + 16 * 67

-- What code begins with: ra, sp, two arguments, and every other register 0.
abbrev pub registers_for : Layout → ℕ → ℕ → ℕ → List ℕ
registers_for layout sp a0 a1 = slice_set (slice_set (slice_set (slice_set (replicate 32 0) 1 (return_address layout)) 2 sp) 10 a0) 11 a1

-- A service answers in a0, which is register 10, and continues at ra, which is register 1.
abbrev pub answered : Parts → ℕ → Parts
answered f a0 = record f { hart = record { x = slice_set f.hart.x 10 a0; pc = slice_index f.hart.x 1; phase = Called; tpl = f.hart.tpl } }

-- the stack pointer of the code that runs, rounded down to 16 (RISC-V psABI, the stack's alignment)
abbrev pub aligned_stack : Parts → ℕ
aligned_stack f = slice_index f.hart.x 2 - slice_index f.hart.x 2 % 16

-- ---- images

-- An image begins at its entry point, at the level of its caller. ra is slot 67, by which the firmware is returned to, a0 the
-- image's handle and a1 the system table; every other register but sp is 0. It is started from then on. (UEFI 2.10, 2.3.7.1:
-- handoff state)
unfoldable pub with_image : Parts → Purpose → ℕ → ℕ → ℕ → Parts
with_image f purpose handle sp entry =
    record (pushed f purpose (record { x = registers_for f.runtime.layout sp handle f.runtime.layout.system; pc = entry; phase = Called; tpl = f.hart.tpl })) {
      images = with_started f.images handle;
    }

-- ---- notifications

-- the notification that comes next: the earliest of the greatest level above the present one
abbrev pub notice_of : Parts → Option Notify
notice_of f = notified f.events.events (next_entry f.events.queue f.hart.tpl)

abbrev pub without_notice : Parts → Parts
without_notice f = record f { events = after_next f.events (next_entry f.events.queue f.hart.tpl) }

-- A notification's function begins at its event's level, with the event and its context. (UEFI 2.10, 7.1.1: EFI_EVENT_NOTIFY)
unfoldable pub with_notification : Parts → Notify → Parts
with_notification f n = pushed f Notification (record { x = registers_for f.runtime.layout (aligned_stack f) n.event n.context; pc = n.function; phase = Called; tpl = n.tpl })

-- ---- what is known ahead

-- Neither a notification comes, nor a tick for so many units of time. Once boot services are over, no tick comes at all.
pub record Quiet (f : Parts) (units : ℕ) : Type 0 where
  pub notice : notice_of f ≡ None
  pub tick : f.runtime.gone ≡ false → f.time + units ≤ moment_ahead f.events
