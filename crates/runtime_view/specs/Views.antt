-- The windows through which code sees RAM, before a virtual address map and after it (UEFI 2.10, section 8.4:
-- SetVirtualAddressMap).
use Rattle.std.specs.Prelude.{ℕ, ◌≡◌, ◌≤◌, ◌<◌, ◌+◌, ◌-◌, ◌*◌, ◌^◌, nat_lt, max, min, true, List, [], ◌∷◌, ◌++◌, length, slice_get, Some, if◌then◌else◌}
use Rattle.std.specs.List.{filter}
use Rattle.base_reloc.specs.Moved.{sum}
use Rattle.page_alloc.specs.declared.layout.Layout.{Layout}
use Rattle.memory_map.specs.declared.descriptor.Descriptor.{Descriptor}
use Rattle.address_view.specs.declared.view.Window.{Window}
use Rattle.map_faults.specs.Grounds.{window_pages}
use Rattle.map_faults.specs.Rules.{is_runtime, behind}
use Rattle.map_faults.specs.Faults.{displacement_by, entry_at}

-- before: RAM at its own addresses
abbrev pub view_before : Layout → List Window
view_before layout = record { virt = layout.base; phys = layout.base; len = 4096 * layout.pages } ∷ []

-- where the entries of a map put an address, modulo 2^64
abbrev pub virtual_of : List Descriptor → ℕ → ℕ
virtual_of entries at = sum at (displacement_by (entry_at entries at))

-- after: a window for each runtime descriptor, at its virtual place alone
unfoldable pub runtime_windows : List Descriptor → List Descriptor → List Window
runtime_windows entries [] = []
runtime_windows entries (d ∷ ds) =
    if is_runtime d then record { virt = virtual_of entries d.start; phys = d.start; len = 4096 * d.pages } ∷ runtime_windows entries ds
    else runtime_windows entries ds

-- one for the operating system's stack, arguments and return page
abbrev pub os_window : Layout → ℕ → Window
os_window layout os_virtual = record { virt = os_virtual; phys = layout.os_stack; len = 4096 * window_pages }

-- RAM at its own addresses from one on and below another, where there is any between them
abbrev pub range : ℕ → ℕ → List Window
range low high = if nat_lt low high then record { virt = low; phys = low; len = high - low } ∷ [] else []

-- the same without the operating system's window
abbrev pub ranges_around : Layout → ℕ → ℕ → List Window
ranges_around layout low high = range low (min high layout.os_stack) ++ range (max low layout.boot_stack) high

-- what lies between runtime descriptors, from an address on, up to the end of RAM
unfoldable pub ranges_between : Layout → ℕ → List Descriptor → List Window
ranges_between layout from [] = ranges_around layout from (layout.base + 4096 * layout.pages)
ranges_between layout from (d ∷ ds) =
    if is_runtime d then ranges_around layout from d.start ++ ranges_between layout (behind d.start d.pages) ds
    else ranges_between layout from ds

-- The runtime descriptors come first, by ascending address, then the operating system's window, then all other RAM where it
-- is, one window for each range of it.
unfoldable pub view_after : Layout → List Descriptor → List Descriptor → ℕ → List Window
view_after layout descriptors entries os_virtual =
    runtime_windows entries descriptors ++ os_window layout os_virtual ∷ ranges_between layout layout.base descriptors

-- how many windows it has, whatever the entries are, and wherever the operating system's window is seen
unfoldable pub window_count : Layout → List Descriptor → ℕ
window_count layout descriptors = length (filter is_runtime descriptors) + 1 + length (ranges_between layout layout.base descriptors)

-- no runtime descriptor meets the operating system's window
abbrev pub IsClear : Layout → Descriptor → Type 0
IsClear layout d = is_runtime d ≡ true → (at : ℕ) → layout.os_stack ≤ at → at < layout.boot_stack → d.start ≤ at → at < behind d.start d.pages → ⊥

abbrev pub WindowIsClear : Layout → List Descriptor → Type 0
WindowIsClear layout descriptors = (i : ℕ) (d : Descriptor) → slice_get descriptors i ≡ Some d → IsClear layout d
