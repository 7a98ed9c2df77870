-- Where RAM lies, and its use at opening. Addresses are physical, in bytes.
use Rattle.std.specs.Prelude.{ℕ, ◌+◌, ◌*◌, ◌-◌, ◌^◌, ◌%◌, ◌<◌, ◌≤◌, ◌≡◌}
use Rattle.page_alloc.specs.declared.layout.Layout.{Layout}

-- a base and a number of 4 KiB pages that RAM may have
pub record IsRam (base pages : ℕ) : Type 0 where
  pub above_zero : 0 < base
  pub on_page : base % 4096 ≡ 0
  pub room : 256 ≤ pages
  pub most : pages ≤ 1048576
  pub end : base + 4096 * pages ≤ 2 ^ 47

-- the first address behind RAM
abbrev pub end_of : ℕ → ℕ → ℕ
end_of base pages = base + 4096 * pages

-- From the top of RAM down: the slot page, the page of the system table, the page of the boot services
-- table, the boot stack of 32 pages, the operating system's return page, its 16 pages of arguments and
-- its stack of 16 pages.
unfoldable pub layout_at : ℕ → ℕ → Layout
layout_at base pages =
    record {
      base = base;
      pages = pages;
      slots = end_of base pages - 0x1000;
      system = end_of base pages - 0x2000;
      boot = end_of base pages - 0x3000;
      boot_stack = end_of base pages - 0x23000;
      os_return = end_of base pages - 0x24000;
      os_args = end_of base pages - 0x34000;
      os_stack = end_of base pages - 0x44000;
    }

-- The layout is that of its own base and pages, which RAM may have.
pub record IsLayout (layout : Layout) : Type 0 where
  pub ram : IsRam layout.base layout.pages
  pub places : layout ≡ layout_at layout.base layout.pages
