-- The pages of RAM as a list, one entry a page.
use Rattle.std.specs.Prelude.{ℕ, ◌≡◌, ◌<◌, ◌≤◌, ◌+◌, ◌-◌, ◌/◌, ◌^◌, ◌==◌, ◌&&◌, ◌++◌, nat_le, min, Bool, List, length, take, drop, replicate, slice_get, Option, None, if◌then◌else◌}
use Rattle.std.specs.List.{list_all, All}
use Rattle.page_alloc.specs.Layout.{IsRam}
use Rattle.page_alloc.specs.declared.page.Owner.TheVariants.{Free}
use Rattle.page_alloc.specs.declared.page.Page.{Page}

-- where RAM begins, its pages in order of address, and the key of its memory map
pub record PageList : Type 0 where
  pub base : ℕ
  pub pages : List Page
  pub key : ℕ

-- the memory type EfiConventionalMemory (UEFI 2.10, table 7.10)
abbrev pub is_conventional : Page → Bool
is_conventional page = page.memory_type == 7

-- a page that may be given
abbrev pub conventional : Page
conventional = record { memory_type = 7; owner = Free }

-- so many pages from an index on are there, and all of them pass a test
unfoldable pub all_from : (Page → Bool) → List Page → ℕ → ℕ → Bool
all_from test pages start count = nat_le (start + count) (length pages) && list_all test (take count (drop start pages))

-- the index of the page at an address
abbrev pub index_of : PageList → ℕ → ℕ
index_of m at = (at - m.base) / 4096

-- the page at an address, None outside RAM
unfoldable pub page_at : PageList → ℕ → Option Page
page_at m at = if nat_le m.base at then slice_get m.pages (index_of m at) else None

-- the pages with so many of them, from an index on, made the same
unfoldable pub with_pages : List Page → ℕ → ℕ → Page → List Page
with_pages pages start count page = take start pages ++ replicate count page ++ drop (start + count) pages

-- The key after a change. It stands still at the end of its type.
abbrev pub next_key : ℕ → ℕ
next_key key = min (key + 1) (2 ^ 64 - 1)

-- the list after so many pages from an address on became the same
unfoldable pub changed : PageList → ℕ → ℕ → Page → PageList
changed m at count page = record { base = m.base; pages = with_pages m.pages (index_of m at) count page; key = next_key m.key }

-- A page that is conventional belongs to nobody.
abbrev pub IsNobodys : Page → Type 0
IsNobodys page = page.memory_type ≡ 7 → page ≡ conventional

-- What is so of every list of pages.
pub record Whole (m : PageList) : Type 0 where
  pub ram : IsRam m.base (length m.pages)
  pub free : All IsNobodys m.pages
  pub key_low : 1 ≤ m.key
  pub key_high : m.key < 2 ^ 64
