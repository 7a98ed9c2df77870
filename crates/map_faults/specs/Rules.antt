-- The rules of a virtual address map, each a test of numbers (UEFI 2.10, sections 7.2 and 8.4).
use Rattle.std.specs.Prelude.{ℕ, ◌+◌, ◌-◌, ◌*◌, ◌/◌, ◌%◌, ◌^◌, ◌==◌, ◌&&◌, not, nat_lt, nat_le, max, min, Bool, List}
use Rattle.std.specs.List.{list_any}
use Rattle.page_alloc.specs.declared.layout.Layout.{Layout}
use Rattle.memory_map.specs.declared.descriptor.Descriptor.{Descriptor}

-- EFI_MEMORY_RUNTIME is bit 63 of a descriptor's attribute.
abbrev pub is_runtime : Descriptor → Bool
is_runtime d = d.attribute / 2 ^ 63 % 2 == 1

-- the first address behind so many pages
abbrev pub behind : ℕ → ℕ → ℕ
behind at pages = at + 4096 * pages

-- an entry has the start and the pages of a runtime descriptor
abbrev pub is_named_by : Descriptor → Descriptor → Bool
is_named_by e d = is_runtime d && (d.start == e.start && d.pages == e.pages)

-- a runtime descriptor of the memory map has the entry's start and pages
abbrev pub is_known : List Descriptor → Descriptor → Bool
is_known descriptors e = list_any (λ (d : Descriptor). is_named_by e d) descriptors

-- an earlier entry has its start
unfoldable pub is_twice : List Descriptor → Descriptor → Bool
is_twice earlier e = list_any (λ (f : Descriptor). is_runtime f && f.start == e.start) earlier

abbrev pub is_unaligned : ℕ → Bool
is_unaligned virt = not (virt % 4096 == 0)

-- The first and the last page of the address space stay free.
abbrev pub is_out : ℕ → ℕ → Bool
is_out virt pages = not (nat_le 4096 virt && nat_le (behind virt pages) (2 ^ 64 - 4096))

-- two ranges of pages have an address in common
abbrev pub meet : ℕ → ℕ → ℕ → ℕ → Bool
meet a m b n = nat_lt a (behind b n) && nat_lt b (behind a m)

-- the virtual range of an earlier entry is met
unfoldable pub overlaps : List Descriptor → ℕ → ℕ → Bool
overlaps earlier virt pages = list_any (λ (f : Descriptor). is_runtime f && meet f.virt f.pages virt pages) earlier

-- some address from one on and below another lies outside the operating system's window
abbrev pub sticks_out : Layout → ℕ → ℕ → Bool
sticks_out layout low high = nat_lt low high && not (nat_le layout.os_stack low && nat_le high layout.boot_stack)

-- a range of pages meets pages of RAM that stay where they are: those of no runtime descriptor, outside the operating
-- system's window
unfoldable pub shadows : Layout → List Descriptor → ℕ → ℕ → Bool
shadows layout descriptors virt pages =
    list_any (λ (d : Descriptor). not (is_runtime d) && sticks_out layout (max d.start virt) (min (behind d.start d.pages) (behind virt pages))) descriptors
