-- What AllocatePages and FreePages answer, and the pages behind them (UEFI 2.10, section 7.2).
use Rattle.std.specs.Prelude.{ℕ, true, false, ◌+◌, ◌*◌, ◌%◌, ◌==◌, ◌&&◌, ◌||◌, nat_le, nat_lt, Bool, Option, Some, None, Result, Ok, Err, if◌then◌else◌}
use Rattle.page_alloc.specs.declared.page.Owner.{Owner}
use Rattle.page_alloc.specs.declared.page.Owner.TheVariants.{Free, Firmware, Pages, Pool, Image}
use Rattle.page_alloc.specs.declared.page.PageRefusal.{PageRefusal}
use Rattle.page_alloc.specs.declared.page.PageRefusal.TheVariants.{Invalid, NotFound, NoPages}
use Rattle.page_alloc.specs.Pages.{PageList, all_from, index_of, changed, conventional}
use Rattle.page_alloc.specs.Fit.{fit}

-- a memory type that pages may be given: all but 7, conventional memory, and those that are reserved
abbrev pub may_be_given : ℕ → Bool
may_be_given memory_type = nat_lt memory_type 7 || (nat_le 8 memory_type && nat_le memory_type 13) || nat_le 0x70000000 memory_type

-- the address of a fit, or why there is none
abbrev pub given : PageList → ℕ → Option ℕ → Result ℕ PageRefusal
given m kind None = if kind == 2 then Err NotFound else Err NoPages
given m kind (Some start) = Ok (m.base + 4096 * start)

-- a kind and a memory type that have a meaning, and pages to give
unfoldable pub is_request : ℕ → ℕ → ℕ → Bool
is_request kind memory_type pages = nat_le kind 2 && (nat_lt 0 pages && may_be_given memory_type)

-- AllocatePages: the address of the pages
unfoldable pub allocation : PageList → ℕ → ℕ → ℕ → ℕ → Result ℕ PageRefusal
allocation m kind memory_type pages at = if is_request kind memory_type pages then given m kind (fit m kind at pages) else Err Invalid

-- the list behind it
abbrev pub after_allocation : Result ℕ PageRefusal → PageList → Owner → ℕ → ℕ → PageList
after_allocation (Ok start) m owner memory_type pages = changed m start pages (record { memory_type = memory_type; owner = owner })
after_allocation (Err refusal) m owner memory_type pages = m

abbrev pub is_same_owner : Owner → Owner → Bool
is_same_owner Free Free = true
is_same_owner Firmware Firmware = true
is_same_owner Pages Pages = true
is_same_owner Pool Pool = true
is_same_owner Image Image = true
is_same_owner a b = false

-- so many pages from an address on, a multiple of 4,096, are all an owner's
unfoldable pub owns : PageList → Owner → ℕ → ℕ → Bool
owns m owner at pages = nat_le m.base at && all_from (λ page. is_same_owner page.owner owner) m.pages (index_of m at) pages

-- FreePages
unfoldable pub freeing : PageList → Owner → ℕ → ℕ → Result (Unit {0}) PageRefusal
freeing m owner at pages = if at % 4096 == 0 && nat_lt 0 pages then (if owns m owner at pages then Ok tt else Err NotFound) else Err Invalid

-- the list behind it
abbrev pub after_freeing : {X : Type 0} → Result X PageRefusal → PageList → ℕ → ℕ → PageList
after_freeing (Ok done) m at pages = changed m at pages conventional
after_freeing (Err refusal) m at pages = m
