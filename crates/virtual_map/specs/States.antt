-- What of a machine stays when boot services end.
use Rattle.std.specs.Prelude.{ℕ, ◌≡◌, Bool, List, length}
use Rattle.guest_memory.specs.Pages.{Pages}
use Rattle.address_view.specs.declared.view.Window.{Window}
use Rattle.page_alloc.specs.declared.layout.Layout.{Layout}
use Rattle.page_alloc.specs.Layout.{IsLayout}
use Rattle.page_alloc.specs.Pages.{PageList}
use Rattle.memory_map.specs.declared.descriptor.Descriptor.{Descriptor}
use Rattle.event_queue.specs.declared.event.Notify.{Notify}
use Rattle.map_faults.specs.Grounds.{Kept}

pub record Runtime : Type 0 where
  -- where RAM lies, its bytes with the rights to its pages, the type and owner of each page, and the windows through which
  -- code sees it
  pub layout : Layout
  pub memory : Pages
  pub pages : PageList
  pub view : List Window
  -- the memory map, the runtime drivers that stay, and the functions to call at the virtual address change
  pub descriptors : List Descriptor
  pub kept : List Kept
  pub notifies : List Notify
  -- whether boot services are over, and whether a virtual address map was made
  pub gone : Bool
  pub mapped : Bool
  -- the address at which the operating system's window is seen from the map on
  pub os_virtual : ℕ
  -- for how many windows of the view after the map there is room
  pub room : ℕ

-- a layout, a memory and a page map are of one RAM
pub record AreOneRam (layout : Layout) (m : Pages) (pages : PageList) : Type 0 where
  pub is_layout : IsLayout layout
  pub base : m.base ≡ layout.base
  pub count : m.pages ≡ layout.pages
  pub map_base : pages.base ≡ layout.base
  pub map_count : length pages.pages ≡ layout.pages

-- the parts of a state are of one RAM
abbrev pub Belongs : Runtime → Type 0
Belongs r = AreOneRam r.layout r.memory r.pages

-- An instruction's change leaves all but the memory's bytes and which of its pages are touched.
pub record SameParts (old new : Runtime) : Type 0 where
  pub layout : new.layout ≡ old.layout
  pub base : new.memory.base ≡ old.memory.base
  pub count : new.memory.pages ≡ old.memory.pages
  pub map : new.pages ≡ old.pages
  pub view : new.view ≡ old.view
  pub descriptors : new.descriptors ≡ old.descriptors
  pub kept : new.kept ≡ old.kept
  pub notifies : new.notifies ≡ old.notifies
  pub gone : new.gone ≡ old.gone
  pub mapped : new.mapped ≡ old.mapped
  pub os_virtual : new.os_virtual ≡ old.os_virtual
  pub room : new.room ≡ old.room
