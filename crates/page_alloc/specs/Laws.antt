-- What the definitions come to.
use Rattle.std.specs.Prelude.{ℕ, ◌≡◌, ◌<◌, ◌≤◌, ◌+◌, ◌*◌, ◌-◌, ◌^◌, ◌%◌, ◌⊎◌, min, Bool, true, false, List, [], ◌∷◌, length, slice_get, Some, Ok, is_ok, if◌then◌else◌}
use Rattle.page_alloc.specs.declared.layout.Layout.{Layout}
use Rattle.page_alloc.specs.declared.page.Owner.{Owner}
use Rattle.page_alloc.specs.declared.page.Page.{Page}
use Rattle.page_alloc.specs.declared.page.Owner.TheVariants.{Free}
use Rattle.page_alloc.specs.Pages.{PageList, Whole, changed, index_of, page_at, is_conventional, conventional}
use Rattle.page_alloc.specs.Layout.{IsLayout}
use Rattle.page_alloc.specs.Opening.{opening_pages}
use Rattle.page_alloc.specs.Fit.{is_fit}
use Rattle.page_alloc.specs.Calls.{allocation, after_allocation, freeing, after_freeing, owns, is_same_owner}

-- The pages of a fit are there and conventional, and it meets the kind.
pub record IsFit (m : PageList) (kind at count start : ℕ) : Type 0 where
  pub inside : start + count ≤ length m.pages
  pub conventional : (k : ℕ) (page : Page) → start ≤ k → k < start + count → slice_get m.pages k ≡ Some page → page.memory_type ≡ 7
  pub last : kind ≡ 1 → m.base + 4096 * (start + count) ≤ at + 1
  pub there : kind ≡ 2 → m.base + 4096 * start ≡ at

-- The test of a fit says just that.
abbrev pub FitMeans : Type 0
FitMeans = (m : PageList) (kind at count start : ℕ) → kind ≤ 2 → (is_fit m kind at count start ≡ true → IsFit m kind at count start) × (IsFit m kind at count start → is_fit m kind at count start ≡ true)

-- Pages that were given can be taken back, and then all pages are as before.
abbrev pub FreeRestores : Type 0
FreeRestores = (m : PageList) (owner : Owner) (kind memory_type pages at start : ℕ) → Whole m → allocation m kind memory_type pages at ≡ Ok start
    → let n = after_allocation (Ok start) m owner memory_type pages in
    (freeing n owner start pages ≡ Ok tt) × ((after_freeing (freeing n owner start pages) n start pages).pages ≡ m.pages)

-- A change leaves each page outside it.
abbrev pub OthersStay : Type 0
OthersStay = (m : PageList) (at count k : ℕ) (page : Page) → index_of m at + count ≤ length m.pages → (k < index_of m at) ⊎ (index_of m at + count ≤ k)
    → slice_get (changed m at count page).pages k ≡ slice_get m.pages k

-- calls in a row
pub data PageCall : Type 0 where
  Allocate : (owner : Owner) (kind memory_type pages at : ℕ) → PageCall
  Release : (owner : Owner) (at pages : ℕ) → PageCall

abbrev pub after_call : PageList → PageCall → PageList
after_call m (Allocate owner kind memory_type pages at) = after_allocation (allocation m kind memory_type pages at) m owner memory_type pages
after_call m (Release owner at pages) = after_freeing (freeing m owner at pages) m at pages

abbrev pub is_accepted : PageList → PageCall → Bool
is_accepted m (Allocate owner kind memory_type pages at) = is_ok (allocation m kind memory_type pages at)
is_accepted m (Release owner at pages) = is_ok (freeing m owner at pages)

-- The pages that a call may change: AllocatePages those that are conventional, FreePages the owner's.
abbrev pub may_change : PageCall → Page → Bool
may_change (Allocate owner kind memory_type pages at) page = is_conventional page
may_change (Release owner at pages) page = is_same_owner page.owner owner

-- A call leaves the type and the owner of each other page.
abbrev pub CallsLeaveOthers : Type 0
CallsLeaveOthers = (m : PageList) (call : PageCall) (at : ℕ) (page : Page) → page_at m at ≡ Some page → may_change call page ≡ false → page_at (after_call m call) at ≡ Some page

abbrev pub is_release_by : Owner → PageCall → Bool
is_release_by owner (Allocate other kind memory_type pages at) = false
is_release_by owner (Release other at pages) = is_same_owner owner other

-- So what an owner has stays the owner's in each call but the owner's own FreePages.
abbrev pub OwnedStay : Type 0
OwnedStay = (m : PageList) (call : PageCall) (owner : Owner) (at count : ℕ) → Whole m → is_same_owner Free owner ≡ false → is_release_by owner call ≡ false → 0 < count
    → owns m owner at count ≡ true → owns (after_call m call) owner at count ≡ true

-- pages that were given: whole pages of RAM, which no owner had
pub record IsGiven (m : PageList) (start pages : ℕ) : Type 0 where
  pub some : 0 < pages
  pub on_page : start % 4096 ≡ 0
  pub low : m.base ≤ start
  pub high : start + 4096 * pages ≤ m.base + 4096 * length m.pages
  pub new : (owner : Owner) (at count : ℕ) → is_same_owner Free owner ≡ false → at % 4096 ≡ 0 → 0 < count → owns m owner at count ≡ true
      → (at + 4096 * count ≤ start) ⊎ (start + 4096 * pages ≤ at)

-- Pages that AllocatePages gave are such, and the owner has them.
abbrev pub GivenAreOwned : Type 0
GivenAreOwned = (m : PageList) (owner : Owner) (kind memory_type pages at start : ℕ) → Whole m → allocation m kind memory_type pages at ≡ Ok start
    → IsGiven m start pages × (owns (after_allocation (Ok start) m owner memory_type pages) owner start pages ≡ true)

-- FreePages takes back what an owner has, and leaves each owner what it has apart from that.
abbrev pub OwnedAreFreed : Type 0
OwnedAreFreed = (m : PageList) (owner : Owner) (at pages : ℕ) → Whole m → at % 4096 ≡ 0 → 0 < pages → owns m owner at pages ≡ true
    → (freeing m owner at pages ≡ Ok tt)
    × ((other : Owner) (p count : ℕ) → p % 4096 ≡ 0 → (p + 4096 * count ≤ at) ⊎ (at + 4096 * pages ≤ p) → owns m other p count ≡ true
    → owns (changed m at pages conventional) other p count ≡ true)

abbrev pub after_calls : PageList → List PageCall → PageList
after_calls m [] = m
after_calls m (call ∷ calls) = after_calls (after_call m call) calls

abbrev pub accepted : PageList → List PageCall → ℕ
accepted m [] = 0
accepted m (call ∷ calls) = (if is_accepted m call then 1 else 0) + accepted (after_call m call) calls

-- After every list of calls the key has risen by one for each that was accepted, up to the end of its type.
abbrev pub KeyCounts : Type 0
KeyCounts = (m : PageList) (calls : List PageCall) → m.key < 2 ^ 64 → (after_calls m calls).key ≡ min (m.key + accepted m calls) (2 ^ 64 - 1)

-- At opening there is a page for each page of RAM.
abbrev pub OpeningCoversRam : Type 0
OpeningCoversRam = (layout : Layout) → IsLayout layout → length (opening_pages layout) ≡ layout.pages
