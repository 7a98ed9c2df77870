-- The machine at opening.
use Rattle.std.specs.Prelude.{ℕ, ◌+◌, ◌*◌, ◌/◌, ◌-◌, List, [], ◌∷◌, false, true, replicate, None}
use Rattle.guest_memory.specs.declared.rights.Rights.{Rights}
use Rattle.guest_memory.specs.Pages.{Pages, all_rights}
use Rattle.guest_memory.specs.Changes.{reserved, with_rights}
use Rattle.page_alloc.specs.declared.layout.Layout.{Layout}
use Rattle.page_alloc.specs.Layout.{layout_at}
use Rattle.page_alloc.specs.Opening.{opening_pages}
use Rattle.uh_base.specs.declared.guid.Guid.{Guid}
use Rattle.handle_db.specs.Database.{fresh as fresh_protocol}
use Rattle.protocol_db.specs.Registrations.{Protocols}
use Rattle.event_queue.specs.Calls.{no_events}
use Rattle.system_tables.specs.Memory.{built}
use Rattle.variable_store.specs.Entries.{Entry}
use Rattle.time_service.specs.Clocks.{ClockState}
use Rattle.virtual_map.specs.States.{Runtime}
use Rattle.firmware_core.specs.declared.frame.Phase.TheVariants.{Called}
use Rattle.firmware_core.specs.Parts.{Parts}

-- RAM that nothing was put to
abbrev pub fresh : ℕ → ℕ → Pages
fresh base pages = record { base = base; pages = pages; bytes = replicate (4096 * pages) 0; rights = replicate pages all_rights; touched = replicate pages false }

abbrev pub readable : Rights
readable = record { read = true; write = false; exec = false }

-- the page of RAM at an address
abbrev pub page_of_ram : Layout → ℕ → ℕ
page_of_ram layout at = (at - layout.base) / 4096

-- The tables are built; the pages of the operating system's arguments and the slot page are touched, and the slot page may
-- only be read.
abbrev pub with_firmware : Layout → Pages → Pages
with_firmware layout m =
    with_rights (reserved (reserved (built layout m) (page_of_ram layout layout.os_args) 16) (page_of_ram layout layout.slots) 1) (page_of_ram layout layout.slots) 1 readable

-- The memory map is that of opening, and one window shows RAM at its own addresses. Boot services have begun; the operating
-- system's window, its stack first, isn't moved by a virtual address map.
abbrev pub runtime_at : ℕ → ℕ → Runtime
runtime_at base pages = record {
  layout = layout_at base pages;
  memory = with_firmware (layout_at base pages) (fresh base pages);
  pages = record { base = base; pages = opening_pages (layout_at base pages); key = 1 };
  view = record { virt = base; phys = base; len = 4096 * pages } ∷ [];
  descriptors = [];
  kept = [];
  notifies = [];
  gone = false;
  mapped = false;
  os_virtual = (layout_at base pages).os_stack;
  room = 0;
}

-- EFI_SIMPLE_TEXT_OUTPUT_PROTOCOL_GUID, 387477c2-69c7-11d2-8e39-00a0c969723b (UEFI 2.10, 12.4.1)
abbrev pub text_output_protocol : Guid
text_output_protocol = record { d1 = 0x387477c2; d2 = 0x69c7; d3 = 0x11d2; d4 = 0x8e3900a0c969723b }

-- One handle was made, 16, that of the console; its interface stands behind the boot services table. No event is registered.
abbrev pub with_console : Layout → Protocols
with_console layout = record {
  handles = record { live = record { number = 16; protocols = fresh_protocol text_output_protocol (layout.boot + 0x200) ∷ [] } ∷ []; made = 1 };
  registrations = [];
  made = 0;
}

-- Every register is 0, the level is TPL_APPLICATION, 4, no image is loaded, the pool has no block, and there is no event but
-- tick moments. The monotonic count is 0, and no call has returned.
unfoldable pub opened : ℕ → ℕ → List ℕ → ClockState → List Entry → Parts
opened base pages ticks clock variables = record {
  hart = record { x = replicate 32 0; pc = 0; phase = Called; tpl = 4 };
  frames = [];
  time = 0;
  runtime = runtime_at base pages;
  pool = [];
  images = [];
  protocols = with_console (layout_at base pages);
  events = no_events ticks;
  variables = variables;
  clock = clock;
  count = 0;
  returned = None;
}
