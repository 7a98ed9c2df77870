-- Where code sees a range of RAM from an accepted map on (UEFI 2.10, section 8.4: SetVirtualAddressMap).
use Rattle.std.specs.Prelude.{ℕ, ◌≡◌, ◌≤◌, ◌<◌, ◌+◌, ◌-◌, ◌%◌, ◌^◌, ◌&&◌, ◌⊎◌, nat_le, nat_lt, true, List, Some, None, Ok, slice_get, if◌then◌else◌}
use Rattle.page_alloc.specs.declared.layout.Layout.{Layout}
use Rattle.memory_map.specs.declared.descriptor.Descriptor.{Descriptor}
use Rattle.address_view.specs.declared.view.Window.{Window}
use Rattle.address_view.specs.Windows.{see}
use Rattle.map_faults.specs.Grounds.{Call}
use Rattle.map_faults.specs.Rules.{is_runtime, behind}
use Rattle.map_faults.specs.Faults.{first_fault}
use Rattle.map_faults.specs.Pointers.{converted}
use Rattle.virtual_map.specs.States.{Runtime}
use Rattle.runtime_turn.specs.Functions.{ground_of}
use Rattle.runtime_view.specs.Views.{virtual_of, view_after}
use Rattle.map_transition.specs.Wholes.{Whole}

-- so many bytes from an address on lie in one runtime descriptor of a memory map,
pub record IsInDescriptor (descriptors : List Descriptor) (start len : ℕ) : Type 0 where
  pub at : ℕ
  pub one : Descriptor
  pub here : slice_get descriptors at ≡ Some one
  pub runtime : is_runtime one ≡ true
  pub low : one.start ≤ start
  pub high : start + len ≤ behind one.start one.pages

-- or in the operating system's window: its stack, its arguments and its return page
pub record IsInWindow (layout : Layout) (start len : ℕ) : Type 0 where
  pub low : layout.os_stack ≤ start
  pub high : start + len ≤ layout.boot_stack

-- So a map moves them together.
abbrev pub MovesAsOne : Runtime → (start len : ℕ) → Type 0
MovesAsOne r start len = IsInDescriptor r.descriptors start len ⊎ IsInWindow r.layout start len

-- The window moves to its place from the map on, and what a runtime descriptor holds moves by the displacement of the descriptor's
-- entry.
abbrev pub place_after : Layout → (os_virtual : ℕ) → (entries : List Descriptor) → ℕ → ℕ
place_after layout os_virtual entries at =
    if nat_le layout.os_stack at && nat_lt at layout.boot_stack then os_virtual + (at - layout.os_stack) else virtual_of entries at

-- where a map puts an address of a state's RAM
abbrev pub moved_by : Runtime → Call → ℕ → ℕ
moved_by r call at = place_after r.layout r.os_virtual call.entries at

-- So many bytes of RAM from an address on are seen from another on, in whole pages between the first and the last page of the
-- address space.
pub record AreSeenAt (view : List Window) (start len to : ℕ) : Type 0 where
  pub low : 4096 ≤ to
  pub high : to + len ≤ 2 ^ 64 - 4096
  pub page : to % 4096 ≡ start % 4096
  pub shown : (o : ℕ) → o < len → see view (to + o) ≡ Some (start + o)

-- A range that moves as one is seen at its new place from an accepted map on.
abbrev pub RangesAreSeen : Type 0
RangesAreSeen = (r : Runtime) (call : Call) (start len : ℕ) → Whole r → first_fault (ground_of r) call ≡ None → 0 < len → MovesAsOne r start len
    → AreSeenAt (view_after r.layout r.descriptors call.entries r.os_virtual) start len (moved_by r call start)

-- Each of its addresses has its offset there,
abbrev pub OffsetsMove : Type 0
OffsetsMove = (r : Runtime) (call : Call) (start len o : ℕ) → Whole r → first_fault (ground_of r) call ≡ None → MovesAsOne r start len → o < len
    → moved_by r call (start + o) ≡ moved_by r call start + o

-- and ConvertPointer (UEFI 2.10, section 8.4) gives it, where the range lies in a runtime descriptor.
abbrev pub PointersMove : Type 0
PointersMove = (r : Runtime) (call : Call) (flags start len o : ℕ) → Whole r → first_fault (ground_of r) call ≡ None → IsInDescriptor r.descriptors start len → o < len
    → converted call.entries flags (start + o) ≡ Ok (moved_by r call start + o)
