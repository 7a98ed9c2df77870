-- What AllocatePool and FreePool answer, and the pool and the pages behind them (UEFI 2.10, section 7.2).
use Rattle.std.specs.Prelude.{ℕ, ◌≡◌, ◌≤◌, ◌+◌, ◌*◌, ◌++◌, length, List, [], ◌∷◌, Option, Some, None, Result, Ok, Err, if◌then◌else◌}
use Rattle.page_alloc.specs.declared.page.Owner.TheVariants.{Pool}
use Rattle.page_alloc.specs.declared.page.PageRefusal.{PageRefusal}
use Rattle.page_alloc.specs.Pages.{PageList, changed, conventional}
use Rattle.page_alloc.specs.Calls.{may_be_given, allocation, after_allocation}
use Rattle.pool_alloc.specs.declared.refusal.PoolRefusal.{PoolRefusal}
use Rattle.pool_alloc.specs.declared.span.PageSpan.{PageSpan}
use Rattle.pool_alloc.specs.declared.refusal.PoolRefusal.TheVariants.{Invalid, NoPages, Memory}
use Rattle.pool_alloc.specs.Blocks.{rounded, is_large, pages_for}
use Rattle.pool_alloc.specs.Pool.{BlockPage, Placed, Taken, put_first, take_first}

-- an answer, and the pool and the pages behind it
pub record Done : Type 0 where
  pub answer : ℕ
  pub pool : List BlockPage
  pub pages : PageList

-- new pages of the pool, with one block at their start
abbrev pub on_pages : List BlockPage → PageList → ℕ → ℕ → Result ℕ PageRefusal → Result Done PoolRefusal
on_pages pool m memory_type size (Ok start) =
    Ok (record {
      answer = start;
      pool = pool ++ record { start = start; memory_type = memory_type; blocks = record { offset = 0; size = size } ∷ [] } ∷ [];
      pages = after_allocation (Ok start) m Pool memory_type (pages_for size);
    })
on_pages pool m memory_type size (Err refusal) = Err NoPages

-- a gap of a page of the pool, or else new pages, at the highest start
abbrev pub on_page : List BlockPage → PageList → ℕ → ℕ → Option Placed → Result Done PoolRefusal
on_page pool m memory_type size (Some placed) = Ok (record { answer = placed.at; pool = placed.pages; pages = m })
on_page pool m memory_type size None = on_pages pool m memory_type size (allocation m 0 memory_type (pages_for size) 0)

-- a large block takes pages of its own
abbrev pub gap_for : List BlockPage → ℕ → ℕ → Option Placed
gap_for pool memory_type size = if is_large size then None else put_first pool memory_type size

-- AllocatePool
unfoldable pub pool_allocation : List BlockPage → PageList → ℕ → ℕ → Result Done PoolRefusal
pool_allocation pool m memory_type size =
    if may_be_given memory_type then on_page pool m memory_type (rounded size) (gap_for pool memory_type (rounded size)) else Err Invalid

-- what AllocatePool answers
abbrev pub answer_of : Result Done PoolRefusal → Result ℕ PoolRefusal
answer_of (Ok done) = Ok done.answer
answer_of (Err refusal) = Err refusal

-- so many pages from the address that AllocatePages answers
abbrev pub span_at : ℕ → Result ℕ PageRefusal → Option PageSpan
span_at count (Ok start) = Some (record { start = start; count = count })
span_at count (Err refusal) = None

-- no pages where the block has a gap, else those that AllocatePages gives at the highest start
abbrev pub span_beside : PageList → ℕ → ℕ → Option Placed → Option PageSpan
span_beside m memory_type size (Some placed) = None
span_beside m memory_type size None = span_at (pages_for size) (allocation m 0 memory_type (pages_for size) 0)

-- the pages that AllocatePool allocates: none for a block that goes into a gap, and none where it is refused
unfoldable pub pages_allocated : List BlockPage → PageList → ℕ → ℕ → Option PageSpan
pages_allocated pool m memory_type size = if may_be_given memory_type then span_beside m memory_type (rounded size) (gap_for pool memory_type (rounded size)) else None

-- pages that lie in RAM
abbrev pub InRam : Option PageSpan → PageList → Type 0
InRam None m = Unit {0}
InRam (Some span) m = (m.base ≤ span.start) × (span.start + 4096 * span.count ≤ m.base + 4096 * length m.pages)

-- a block that lies in RAM
abbrev pub BlockInRam : ℕ → ℕ → PageList → Type 0
BlockInRam at size m = (m.base ≤ at) × (at + size ≤ m.base + 4096 * length m.pages)

-- the map behind pages that are allocated
abbrev pub with_allocated : PageList → ℕ → Option PageSpan → PageList
with_allocated m memory_type None = m
with_allocated m memory_type (Some span) = changed m span.start span.count (record { memory_type = memory_type; owner = Pool })

-- the map behind pages that are freed
abbrev pub with_freed : PageList → Option PageSpan → PageList
with_freed m None = m
with_freed m (Some span) = changed m span.start span.count conventional

-- the block is taken, and the pages that it needs no more are freed
abbrev pub on_taken : PageList → Option Taken → Result Done PoolRefusal
on_taken m None = Err Invalid
on_taken m (Some taken) = Ok (record { answer = taken.size; pool = taken.pages; pages = with_freed m taken.freed })

abbrev pub freed_by : Option Taken → Option PageSpan
freed_by None = None
freed_by (Some taken) = taken.freed

-- the pages that FreePool frees: those of the block where no other is left there, and none where it is refused
unfoldable pub pages_freed : List BlockPage → ℕ → Option PageSpan
pages_freed pool at = freed_by (take_first pool at)

-- FreePool
unfoldable pub pool_freeing : List BlockPage → PageList → ℕ → Result Done PoolRefusal
pool_freeing pool m at = on_taken m (take_first pool at)

-- A call that answers so leads from one pool and its pages to another. Want of memory may come at any call; then,
-- as after each refusal, both are as before.
abbrev pub Gives : Result ℕ PoolRefusal → Result Done PoolRefusal → List BlockPage → PageList → List BlockPage → PageList → Type 0
Gives (Ok answer) wanted old m new n = wanted ≡ Ok (record { answer = answer; pool = new; pages = n })
Gives (Err Memory) wanted old m new n = (new ≡ old) × (n ≡ m)
Gives (Err Invalid) wanted old m new n = (wanted ≡ Err Invalid) × (new ≡ old) × (n ≡ m)
Gives (Err NoPages) wanted old m new n = (wanted ≡ Err NoPages) × (new ≡ old) × (n ≡ m)

-- The same, where memory isn't taken.
abbrev pub GivesSurely : Result ℕ PoolRefusal → Result Done PoolRefusal → List BlockPage → PageList → List BlockPage → PageList → Type 0
GivesSurely (Ok answer) wanted old m new n = wanted ≡ Ok (record { answer = answer; pool = new; pages = n })
GivesSurely (Err Memory) wanted old m new n = ⊥
GivesSurely (Err Invalid) wanted old m new n = (wanted ≡ Err Invalid) × (new ≡ old) × (n ≡ m)
GivesSurely (Err NoPages) wanted old m new n = (wanted ≡ Err NoPages) × (new ≡ old) × (n ≡ m)
