-- The end of boot services, over the parts that it reads and changes (UEFI 2.10, 7.4.6: ExitBootServices).
use Rattle.std.specs.Prelude.{ℕ, ◌≡◌, ◌+◌, ◌*◌, ◌==◌, ◌&&◌, not, nat_lt, Bool, true, false, List, length, is_some, Result, Ok, Err, if◌then◌else◌}
use Rattle.std.specs.List.{list_any}
use Rattle.uh_base.specs.Statuses.{success, invalid_parameter}
use Rattle.record_text.specs.declared.cause.Cause.TheVariants as causes
use Rattle.page_alloc.specs.declared.layout.Layout.{Layout}
use Rattle.map_faults.specs.Grounds.{Kept}
use Rattle.memory_map.specs.declared.descriptor.Descriptor.{Descriptor}
use Rattle.memory_map.specs.Map.{map_of}
use Rattle.runtime_view.specs.Views.{window_count}
use Rattle.image_services.specs.Images.{Loaded, find_image}
use Rattle.image_services.specs.Kept.{kept_drivers}
use Rattle.boot_exit.specs.declared.refusal.ExitRefusal.{ExitRefusal}
use Rattle.boot_exit.specs.Exits.{exit_begun, after_begin, with_room, lacks_room, Finished, exit_finished}
use Rattle.virtual_map.specs.States.{Runtime}
use Rattle.firmware_core.specs.declared.frame.Phase.{Phase}
use Rattle.firmware_core.specs.declared.frame.Phase.TheVariants.{Called, Notified, Renewed}
use Rattle.firmware_core.specs.declared.frame.Frame.{Frame}
use Rattle.firmware_core.specs.declared.conclusion.Conclusion.TheVariants.{Answers, Continues, Leaves, Halts}
use Rattle.firmware_core.specs.Harts.{Hart}
use Rattle.firmware_core.specs.Parts.{Parts}
use Rattle.firmware_core.specs.Services.{Concluded, given}

-- ---- where it is under way

-- the address of its slot, 26
abbrev pub exit_address : Layout → ℕ
exit_address layout = layout.slots + 16 * 26

abbrev pub is_notified : Phase → Bool
is_notified Called = false
is_notified Notified = true
is_notified Renewed = false

-- a hart at its slot, behind the notifications of its events
abbrev pub is_ending : ℕ → Hart → Bool
is_ending address hart = hart.pc == address && is_notified hart.phase

-- the code that a frame goes back to called it
abbrev pub goes_back_to : ℕ → Frame → Bool
goes_back_to address frame = is_ending address frame.back

-- It is under way where a notification runs that came between its begin and its finish.
abbrev pub exit_is_under_way : Parts → Bool
exit_is_under_way f = list_any (goes_back_to (exit_address f.runtime.layout)) f.frames

-- ---- how it begins

-- what the begin for an image with a key of the memory map comes to
abbrev pub exit_asked : Parts → ℕ → ℕ → Result (Unit {0}) ExitRefusal
exit_asked f handle key = exit_begun (is_some (find_image f.images handle)) f.runtime.pages.key key

-- Timers stop, and the events of its group are signalled. A refusal changes nothing.
abbrev pub with_exit : Parts → Result (Unit {0}) ExitRefusal → Parts
with_exit f answer = record f { events = after_begin answer f.events }

abbrev pub with_phase : Parts → Phase → Parts
with_phase f phase = record f { hart = record f.hart { phase = phase } }

-- The service comes again behind the notifications, which are turns of their own.
abbrev pub called_by : Parts → Result (Unit {0}) ExitRefusal → Concluded
called_by f (Ok begun) = record { conclusion = Continues; firmware = with_phase (with_exit f (Ok begun)) Notified }
called_by f (Err refusal) = record { conclusion = Answers invalid_parameter; firmware = f }

-- It is called at TPL_APPLICATION, 4: elsewhere the run halts, by this host's choice. It isn't begun twice.
abbrev pub exit_called : Parts → Concluded
exit_called f =
    if not (f.hart.tpl == 4) then record { conclusion = Halts causes.Tpl; firmware = f }
    else (if exit_is_under_way f then record { conclusion = Answers invalid_parameter; firmware = f }
    else called_by f (exit_asked f (given 0 f) (given 1 f)))

-- ---- how it is finished

-- What stays: the memory map as it is now, the runtime drivers, the functions to call at the virtual address change, and room
-- for the windows of the view after it.
abbrev pub runtime_behind : Runtime → List Loaded → Finished → Runtime
runtime_behind r images finished = record r {
  memory = finished.memory;
  descriptors = map_of r.pages;
  kept = kept_drivers images;
  notifies = finished.calls;
  gone = true;
  room = window_count r.layout (map_of r.pages);
}

-- the same of what is made of them first
pub record Remain (f : Parts) (descriptors : List Descriptor) (kept : List Kept) (room : ℕ) : Type 0 where
  pub map : descriptors ≡ map_of f.runtime.pages
  pub drivers : kept ≡ kept_drivers f.images
  pub windows : room ≡ window_count f.runtime.layout (map_of f.runtime.pages)

abbrev pub with_finish : Parts → Finished → Parts
with_finish f finished = record f { runtime = runtime_behind f.runtime f.images finished; events = finished.events }

abbrev pub boot_ended : Parts → Parts
boot_ended f = with_finish f (exit_finished f.runtime.layout (with_room f.runtime.layout f.runtime.memory) f.events)

-- It answers its caller. Where no code called it, the job that it is ends.
abbrev pub exit_answered : Parts → Concluded
exit_answered f =
    if nat_lt 0 (length f.frames) then record { conclusion = Answers success; firmware = f }
    else record { conclusion = Leaves success; firmware = with_phase f Called }

-- Where no frame is left for the page of the system table, the run halts, and nothing has changed.
abbrev pub exit_notified : Parts → Concluded
exit_notified f =
    if lacks_room f.runtime.layout f.runtime.memory then record { conclusion = Halts causes.Frames; firmware = f }
    else exit_answered (boot_ended f)

-- ---- the service

abbrev pub exit_boot_by : Phase → Parts → Concluded
exit_boot_by Called f = exit_called f
exit_boot_by later f = exit_notified f

unfoldable pub at_exit_boot_services : Parts → Concluded
at_exit_boot_services f = exit_boot_by f.hart.phase f
