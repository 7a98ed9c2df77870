-- The state that stays behind the end of boot services (UEFI 2.10, section 7.4.6: ExitBootServices), and that at opening.
use Rattle.std.specs.Prelude.{ℕ, ◌≡◌, ◌-◌, ◌/◌, false, true, List, length}
use Rattle.guest_memory.specs.declared.rights.Rights.{Rights}
use Rattle.guest_memory.specs.Pages.{Pages}
use Rattle.guest_memory.specs.Changes.{reserved, with_rights}
use Rattle.page_alloc.specs.declared.layout.Layout.{Layout}
use Rattle.page_alloc.specs.Layout.{IsLayout}
use Rattle.page_alloc.specs.Opening.{at_opening}
use Rattle.memory_map.specs.Map.{map_of}
use Rattle.event_queue.specs.Queue.{EventList}
use Rattle.virtual_map.specs.States.{Runtime}
use Rattle.runtime_view.specs.Views.{view_before, window_count}
use Rattle.boot_exit.specs.Exits.{with_room, Finished, exit_finished}
use Rattle.image_services.specs.Images.{Loaded}
use Rattle.image_services.specs.Kept.{kept_drivers}

-- ---- opening

-- the page of RAM at an address
abbrev pub page_of_ram : Layout → ℕ → ℕ
page_of_ram layout at = (at - layout.base) / 4096

-- The pages of the operating system's arguments and the slot page are touched, and the slot page has some rights.
abbrev pub with_places : Layout → Rights → Pages → Pages
with_places layout rights m =
    with_rights (reserved (reserved m (page_of_ram layout layout.os_args) 16) (page_of_ram layout layout.slots) 1) (page_of_ram layout layout.slots) 1 rights

-- A state is opened over a memory that has a mark for each page: the pages are those of opening, and RAM is seen at its own
-- addresses.
pub record IsOpened (m : Pages) (rights : Rights) (r : Runtime) : Type 0 where
  pub layout : IsLayout r.layout
  pub base : m.base ≡ r.layout.base
  pub count : m.pages ≡ r.layout.pages
  pub marks : length m.touched ≡ m.pages
  pub memory : r.memory ≡ with_places r.layout rights m
  pub pages : r.pages ≡ at_opening r.layout
  pub view : r.view ≡ view_before r.layout
  pub gone : r.gone ≡ false
  pub mapped : r.mapped ≡ false

-- ---- the end

-- What stays: the memory map as it is now, the runtime drivers, the functions to call at the virtual address change, and room
-- for the windows of the view after it.
abbrev pub stays_behind : Runtime → List Loaded → Finished → Runtime
stays_behind r images finished = record r {
  memory = finished.memory;
  descriptors = map_of r.pages;
  kept = kept_drivers images;
  notifies = finished.calls;
  gone = true;
  room = window_count r.layout (map_of r.pages);
}

-- The page of the system table is touched, and then written.
abbrev pub boot_ended : Runtime → List Loaded → EventList → Runtime
boot_ended r images s = stays_behind r images (exit_finished r.layout (with_room r.layout r.memory) s)
