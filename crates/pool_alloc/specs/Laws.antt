-- What the definitions come to.
use Rattle.std.specs.Prelude.{ℕ, ◌≡◌, ◌<◌, ◌≤◌, ◌+◌, ◌*◌, ◌%◌, true, false, List, length, slice_index_or, Option, Some, None, Ok}
use Rattle.pool_alloc.specs.declared.block.Block.{Block}
use Rattle.pool_alloc.specs.Blocks.{has_room, lowest}
use Rattle.page_alloc.specs.declared.page.Owner.TheVariants.{Pool}
use Rattle.page_alloc.specs.declared.page.Page.{Page}
use Rattle.page_alloc.specs.Pages.{PageList, Whole, page_at, is_conventional}
use Rattle.page_alloc.specs.Calls.{is_same_owner}
use Rattle.page_alloc.specs.Laws.{PageCall, after_call, is_release_by}
use Rattle.pool_alloc.specs.Pool.{BlockPage, pages_of, Apart, IsPool, Together}
use Rattle.pool_alloc.specs.Calls.{Done, pool_allocation, pool_freeing}

-- An offset has room and no lower one has; or none has.
abbrev pub IsLowest : List Block → ℕ → Option ℕ → Type 0
IsLowest blocks size None = (offset : ℕ) → has_room blocks size offset ≡ false
IsLowest blocks size (Some lowest) = (has_room blocks size lowest ≡ true) × ((offset : ℕ) → has_room blocks size offset ≡ true → lowest ≤ offset)

-- The lowest gap for one byte or more is just that.
abbrev pub LowestIsLowest : Type 0
LowestIsLowest = (blocks : List Block) (size : ℕ) → 0 < size → IsLowest blocks size (lowest blocks size)

-- The blocks of a page begin at multiples of 8, have rounded sizes and lie inside its pages, and no two have a byte in
-- common.
pub record AreApart (page : BlockPage) : Type 0 where
  pub aligned : (i : ℕ) (d : Block) → i < length page.blocks → (slice_index_or page.blocks i d).offset % 8 ≡ 0
  pub rounded : (i : ℕ) (d : Block) → i < length page.blocks → (slice_index_or page.blocks i d).size % 8 ≡ 0
  pub inside : (i : ℕ) (d : Block) → i < length page.blocks → (slice_index_or page.blocks i d).offset + (slice_index_or page.blocks i d).size ≤ 4096 * pages_of page.blocks
  pub apart : (i j : ℕ) (d : Block) → i < j → j < length page.blocks → (slice_index_or page.blocks i d).offset + (slice_index_or page.blocks i d).size ≤ (slice_index_or page.blocks j d).offset

-- That is so on each page of a pool, and no two of its pages meet.
abbrev pub PoolIsApart : Type 0
PoolIsApart = (pool : List BlockPage) → IsPool pool
    → ((i : ℕ) (d : BlockPage) → i < length pool → AreApart (slice_index_or pool i d))
    × ((i j : ℕ) (d : BlockPage) → i < j → j < length pool → Apart (slice_index_or pool i d) (slice_index_or pool j d))

-- A pool and its pages stay together in each call on pages but the pool's own FreePages.
abbrev pub PoolStaysTogether : Type 0
PoolStaysTogether = (pool : List BlockPage) (m : PageList) (call : PageCall) → Whole m → IsPool pool → is_release_by Pool call ≡ false → Together pool m → Together pool (after_call m call)

-- A call of the pool leaves the type and the owner of each page of others: AllocatePool of each page that isn't
-- conventional, FreePool of each that isn't the pool's.
abbrev pub PoolLeavesOthers : Type 0
PoolLeavesOthers = (pool : List BlockPage) (m : PageList) (at : ℕ) (page : Page) (done : Done) → Whole m → IsPool pool → Together pool m → page_at m at ≡ Some page
    → ((memory_type size : ℕ) → pool_allocation pool m memory_type size ≡ Ok done → is_conventional page ≡ false → page_at done.pages at ≡ Some page)
    × ((block : ℕ) → pool_freeing pool m block ≡ Ok done → is_same_owner page.owner Pool ≡ false → page_at done.pages at ≡ Some page)
