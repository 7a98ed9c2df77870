-- What is so of the state that runtime services need, from opening on.
use Rattle.std.specs.Prelude.{ℕ, ◌≡◌, ◌≤◌, ◌<◌, ◌+◌, ◌/◌, ◌%◌, Bool, true, false, List, length, Option, Some, None, Result, Ok, Err}
use Rattle.std.specs.List.{All, AllPairs}
use Rattle.page_alloc.specs.declared.layout.Layout.{Layout}
use Rattle.page_alloc.specs.declared.page.Page.{Page}
use Rattle.page_alloc.specs.Pages.{PageList, page_at}
use Rattle.memory_map.specs.declared.descriptor.Descriptor.{Descriptor}
use Rattle.memory_map.specs.Map.{map_of}
use Rattle.map_faults.specs.declared.fault.MapFault.{MapFault}
use Rattle.map_faults.specs.Grounds.{Kept, Call}
use Rattle.map_faults.specs.Rules.{behind}
use Rattle.map_faults.specs.Faults.{call_fault, first_fault}
use Rattle.virtual_map.specs.States.{Runtime, Belongs}
use Rattle.runtime_turn.specs.Functions.{ground_of}
use Rattle.runtime_view.specs.Views.{view_before, view_after}
use Rattle.map_transition.specs.Images.{AreTouched, AreApart, HasSites}

-- ---- pages

abbrev pub type_of : Option Page → Option ℕ
type_of None = None
type_of (Some page) = Some page.memory_type

-- All pages from one address to another have a memory type (UEFI 2.10, table 7.10).
abbrev pub HaveType : PageList → ℕ → ℕ → ℕ → Type 0
HaveType pages from to memory_type = (at : ℕ) → from ≤ at → at < to → type_of (page_at pages at) ≡ Some memory_type

-- The places of a layout have the types that they have at opening: 2 EfiLoaderData, 4 EfiBootServicesData, 6
-- EfiRuntimeServicesData and 5 EfiRuntimeServicesCode.
pub record HavePlaces (layout : Layout) (pages : PageList) : Type 0 where
  pub os : HaveType pages layout.os_stack layout.boot_stack 2
  pub boot : HaveType pages layout.boot_stack layout.system 4
  pub system : HaveType pages layout.system layout.slots 6
  pub slots : HaveType pages layout.slots (layout.slots + 4096) 5

-- ---- images that stay

-- An image begins at a page, below the slot page. Its pages are EfiRuntimeServicesCode.
pub record IsImage (r : Runtime) (image : Kept) : Type 0 where
  pub on_page : image.base % 4096 ≡ 0
  pub low : r.layout.base ≤ image.base
  pub high : behind image.base image.pages ≤ r.layout.slots
  pub types : HaveType r.pages image.base (behind image.base image.pages) 5
  pub sites : HasSites r.memory image

-- ---- the view

-- the state before a map was made
abbrev pub unmapped : Runtime → Runtime
unmapped r = record r { mapped = false }

-- a map that was accepted, by which RAM is seen
pub record IsSeenBy (r : Runtime) (call : Call) : Type 0 where
  pub accepted : first_fault (ground_of (unmapped r)) call ≡ None
  pub view : r.view ≡ view_after r.layout r.descriptors call.entries r.os_virtual

-- RAM is seen at its own addresses until a map is made, and from then on where that map puts it.
abbrev pub HasView : Bool → Runtime → Type 0
HasView false r = r.view ≡ view_before r.layout
HasView true r = (call : Call) × IsSeenBy r call

-- ---- the whole state

pub record Whole (r : Runtime) : Type 0 where
  -- layout, memory and page map are of one RAM, and the layout's places have their types
  pub ram : Belongs r
  pub places : HavePlaces r.layout r.pages
  pub view : HasView r.mapped r
  -- the images that stay are at most 16, the functions at most 256
  pub images : All (IsImage r) r.kept
  pub apart : AllPairs AreApart r.kept
  pub few_images : length r.kept ≤ 16
  pub few_functions : length r.notifies ≤ 256
  -- once boot services are over, the descriptors are the memory map, and there is room for the windows of the later view
  pub descriptors : r.gone ≡ true → r.descriptors ≡ map_of r.pages
  pub room : r.gone ≡ true → r.mapped ≡ false → (entries : List Descriptor) → length (view_after r.layout r.descriptors entries r.os_virtual) ≤ r.room
  -- the operating system's arguments and the page of the system table are touched
  pub arguments : AreTouched r.memory r.layout.os_args r.layout.os_return
  pub system : AreTouched r.memory r.layout.system r.layout.slots

-- ---- a map

-- Where nothing is wrong with the call itself, its entries are as many as fit its size.
abbrev pub FillsSize : Runtime → Call → Type 0
FillsSize r call = call_fault (ground_of r) call ≡ None → length call.entries ≡ call.map_size / 40

-- a map is accepted, or refused by its first fault
abbrev pub accepted_or : Option MapFault → Result (Unit {0}) MapFault
accepted_or None = Ok tt
accepted_or (Some fault) = Err fault
