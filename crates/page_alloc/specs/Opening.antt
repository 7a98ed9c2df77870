-- The pages at opening.
use Rattle.std.specs.Prelude.{ℕ, ◌-◌, ◌/◌, ◌++◌, List, replicate}
use Rattle.page_alloc.specs.declared.layout.Layout.{Layout}
use Rattle.page_alloc.specs.declared.page.Owner.TheVariants.{Firmware}
use Rattle.page_alloc.specs.declared.page.Page.{Page}
use Rattle.page_alloc.specs.Pages.{PageList, conventional}

-- the pages from one address to another, all the same
abbrev pub pages_between : ℕ → ℕ → Page → List Page
pages_between from to page = replicate ((to - from) / 4096) page

-- a page of the firmware's
abbrev pub firmware : ℕ → Page
firmware memory_type = record { memory_type = memory_type; owner = Firmware }

-- Conventional memory up to the operating system's stack, arguments and return page, which are
-- EfiLoaderData; the boot stack and the boot services table, which are EfiBootServicesData; the system
-- table, EfiRuntimeServicesData; and the slots, EfiRuntimeServicesCode (UEFI 2.10, table 7.10).
unfoldable pub opening_pages : Layout → List Page
opening_pages layout =
    pages_between layout.base layout.os_stack conventional
    ++ pages_between layout.os_stack layout.boot_stack (firmware 2)
    ++ pages_between layout.boot_stack layout.system (firmware 4)
    ++ pages_between layout.system layout.slots (firmware 6)
    ++ replicate 1 (firmware 5)

abbrev pub at_opening : Layout → PageList
at_opening layout = record { base = layout.base; pages = opening_pages layout; key = 1 }
