-- Which conventional pages a request is given (UEFI 2.10, section 7.2, AllocatePages).
use Rattle.std.specs.Prelude.{ℕ, zero, suc, ◌≡◌, ◌≤◌, ◌<◌, ◌+◌, ◌*◌, ◌==◌, ◌&&◌, nat_le, Bool, true, false, List, length, Option, Some, None, if◌then◌else◌}
use Rattle.page_alloc.specs.declared.page.Page.{Page}
use Rattle.page_alloc.specs.Pages.{PageList, all_from, is_conventional}

-- What a kind asks of a start, in pages from the base: nothing; that the last byte lies at most at an
-- address; that the start is an address.
unfoldable pub meets : ℕ → ℕ → ℕ → ℕ → ℕ → Bool
meets base kind at count start = if kind == 0 then true else (if kind == 1 then nat_le (base + 4096 * (start + count)) (at + 1) else base + 4096 * start == at)

-- so many pages from a start on are conventional, and meet the kind
unfoldable pub is_fit : PageList → ℕ → ℕ → ℕ → ℕ → Bool
is_fit m kind at count start = all_from is_conventional m.pages start count && meets m.base kind at count start

-- so many pages from a start on are conventional, begin at least at a lowest start, and end at most at a limit,
-- in pages
unfoldable pub is_room : List Page → ℕ → ℕ → ℕ → ℕ → Bool
is_room pages count lowest limit start = all_from is_conventional pages start count && (nat_le lowest start && nat_le (start + count) limit)

-- the highest start below a bound that passes a test
unfoldable pub highest : (ℕ → Bool) → ℕ → Option ℕ
highest test zero = None
highest test (suc n) = if test n then Some n else highest test n

-- The fit of a request for one page or more: the highest start whose pages are all conventional and meet
-- the kind, or none.
unfoldable pub fit : PageList → ℕ → ℕ → ℕ → Option ℕ
fit m kind at count = highest (is_fit m kind at count) (length m.pages)

-- The start passes the test, and no higher one does; or none does.
abbrev pub IsHighest : (ℕ → Bool) → Option ℕ → Type 0
IsHighest test None = (n : ℕ) → test n ≡ false
IsHighest test (Some best) = (test best ≡ true) × ((n : ℕ) → test n ≡ true → n ≤ best)

-- The fit of one page or more is the highest.
abbrev pub FitIsHighest : Type 0
FitIsHighest = (m : PageList) (kind at count : ℕ) → 0 < count → IsHighest (is_fit m kind at count) (fit m kind at count)
