-- The end of boot services (UEFI 2.10, section 7.4.6: ExitBootServices).
use Rattle.std.specs.Prelude.{ℕ, ◌≡◌, ◌==◌, not, nat_lt, Bool, true, false, List, Result, Ok, Err, if◌then◌else◌}
use Rattle.uh_base.specs.Limits.{frame_limit}
use Rattle.guest_memory.specs.declared.rights.PutEnd.{PutEnd}
use Rattle.guest_memory.specs.declared.rights.PutEnd.TheVariants as puts
use Rattle.guest_memory.specs.Lists.{count_true}
use Rattle.guest_memory.specs.Pages.{Pages, page_of}
use Rattle.guest_memory.specs.Changes.{put_part, reserved, SomeUntouched, TouchedBesides}
use Rattle.page_alloc.specs.declared.layout.Layout.{Layout}
use Rattle.event_queue.specs.declared.event.Notify.{Notify}
use Rattle.event_queue.specs.Kinds.{exit_group, virtual_group}
use Rattle.event_queue.specs.Queue.{EventList, group_signalled, group_kept, kept_calls}
use Rattle.event_queue.specs.Timers.{all_stopped}
use Rattle.system_tables.specs.Tables.{boot_cleared}
use Rattle.system_tables.specs.Memory.{page_bytes}
use Rattle.boot_exit.specs.declared.refusal.ExitRefusal.{ExitRefusal}
use Rattle.boot_exit.specs.declared.refusal.ExitRefusal.TheVariants.{Unknown, Key}

-- It takes a loaded image, and the key of the present memory map.
unfoldable pub exit_begun : Bool → ℕ → ℕ → Result (Unit {0}) ExitRefusal
exit_begun known present key =
    if not known then Err Unknown
    else (if key == present then Ok tt else Err (Key present))

-- Timer activity is disabled first, and then the events of EFI_EVENT_GROUP_EXIT_BOOT_SERVICES are signalled.
abbrev pub after_begin : {X : Type 0} → Result X ExitRefusal → EventList → EventList
after_begin (Ok done) s = group_signalled (all_stopped s) exit_group
after_begin (Err refusal) s = s

-- The page of the system table is written at the end, so it has to be touched, and there may be no frame for it.
abbrev pub with_room : Layout → Pages → Pages
with_room layout m = reserved m (page_of m layout.system) 1

abbrev pub lacks_room : Layout → Pages → Bool
lacks_room layout m = nat_lt frame_limit (count_true (with_room layout m).touched)

-- A touch of that page that ends so leads from old to new.
abbrev pub RoomGives : {X : Type 0} → Result X PutEnd → Layout → Pages → Pages → Type 0
RoomGives (Ok done) layout old new = (lacks_room layout old ≡ false) × (new ≡ with_room layout old)
RoomGives (Err puts.Outside) layout old new = ⊥
RoomGives (Err puts.Frames) layout old new = (lacks_room layout old ≡ true) × (new ≡ old)
RoomGives (Err puts.Memory) layout old new = SomeUntouched old (page_of old layout.system) 1 × TouchedBesides old new

-- the functions to call at the virtual address change, and the memory and the events behind the end of boot services
pub record Finished : Type 0 where
  pub calls : List Notify
  pub memory : Pages
  pub events : EventList

-- The system table's fields for the console and for boot services are 0, with a new CRC. Of the events only those of
-- EFI_EVENT_GROUP_VIRTUAL_ADDRESS_CHANGE are left that are notified by signals (section 7.1.2).
unfoldable pub exit_finished : Layout → Pages → EventList → Finished
exit_finished layout m s = record {
  calls = kept_calls s.events virtual_group;
  memory = put_part m layout.system (boot_cleared (page_bytes m layout.system));
  events = group_kept s virtual_group;
}
