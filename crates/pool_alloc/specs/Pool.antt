-- The pages of the pool, in the order in which they were made.
use Rattle.std.specs.Prelude.{ℕ, ◌≡◌, ◌<◌, ◌≤◌, ◌+◌, ◌*◌, ◌%◌, ◌^◌, ◌==◌, ◌&&◌, ◌⊎◌, not, Bool, true, List, [], ◌∷◌, ◌++◌, Option, Some, None, Ok, if◌then◌else◌}
use Rattle.std.specs.List.{list_all, find, filter}
use Rattle.page_alloc.specs.declared.page.Owner.TheVariants.{Pool}
use Rattle.page_alloc.specs.Pages.{PageList, changed, conventional}
use Rattle.page_alloc.specs.Calls.{owns, freeing}
use Rattle.pool_alloc.specs.declared.block.Block.{Block}
use Rattle.pool_alloc.specs.declared.span.PageSpan.{PageSpan}
use Rattle.pool_alloc.specs.Blocks.{lowest, has_room, is_large, pages_for, with_block}

-- where a page begins, the memory type of its blocks, and its blocks by offset
pub record BlockPage : Type 0 where
  pub start : ℕ
  pub memory_type : ℕ
  pub blocks : List Block

-- how many pages the blocks take: one, or what a large block takes
abbrev pub pages_of : List Block → ℕ
pages_of [] = 1
pages_of (block ∷ blocks) = pages_for block.size

-- the pages that are the pool's for these blocks
abbrev pub span_of : BlockPage → PageSpan
span_of page = record { start = page.start; count = pages_of page.blocks }

-- blocks whose gaps others may take: none is large
abbrev pub is_shared : List Block → Bool
is_shared blocks = list_all (λ block. not (is_large block.size)) blocks

-- the lowest gap of a page for so many bytes of a type
unfoldable pub gap_on : BlockPage → ℕ → ℕ → Option ℕ
gap_on page memory_type size = if page.memory_type == memory_type && is_shared page.blocks then lowest page.blocks size else None

abbrev pub with_block_on : BlockPage → ℕ → ℕ → BlockPage
with_block_on page offset size = record page { blocks = with_block (record { offset = offset; size = size }) page.blocks }

-- an address that was given, and the pages of the pool behind it
pub record Placed : Type 0 where
  pub at : ℕ
  pub pages : List BlockPage

abbrev pub put_on : BlockPage → List BlockPage → ℕ → Option ℕ → Option Placed → Option Placed
put_on page pages size (Some offset) others = Some (record { at = page.start + offset; pages = with_block_on page offset size ∷ pages })
put_on page pages size None None = None
put_on page pages size None (Some placed) = Some (record { at = placed.at; pages = page ∷ placed.pages })

-- The first page that has a gap takes a block in its lowest one.
unfoldable pub put_first : List BlockPage → ℕ → ℕ → Option Placed
put_first [] memory_type size = None
put_first (page ∷ pages) memory_type size = put_on page pages size (gap_on page memory_type size) (put_first pages memory_type size)

-- the block of a page that begins at an address
abbrev pub begins_at : BlockPage → ℕ → Block → Bool
begins_at page at block = page.start + block.offset == at

-- the page without it
abbrev pub without : BlockPage → ℕ → BlockPage
without page at = record page { blocks = filter (λ block. not (begins_at page at block)) page.blocks }

-- the size of a block that was taken, the pages of the pool behind it, and the pages that it needs no more
pub record Taken : Type 0 where
  pub size : ℕ
  pub pages : List BlockPage
  pub freed : Option PageSpan

-- A page without a block is given back.
abbrev pub left_of : BlockPage → BlockPage → List BlockPage → ℕ → List Block → Taken
left_of page rest pages size [] = record { size = size; pages = pages; freed = Some (span_of page) }
left_of page rest pages size (block ∷ blocks) = record { size = size; pages = rest ∷ pages; freed = None }

abbrev pub take_on : BlockPage → List BlockPage → ℕ → Option Block → Option Taken → Option Taken
take_on page pages at (Some block) others = Some (left_of page (without page at) pages block.size (without page at).blocks)
take_on page pages at None None = None
take_on page pages at None (Some taken) = Some (record { size = taken.size; pages = page ∷ taken.pages; freed = taken.freed })

-- The block that begins at an address is taken from its page.
unfoldable pub take_first : List BlockPage → ℕ → Option Taken
take_first [] at = None
take_first (page ∷ pages) at = take_on page pages at (find (begins_at page at) page.blocks) (take_first pages at)

-- what was taken from the pages behind others
abbrev pub behind : List BlockPage → Option Taken → Option Taken
behind before None = None
behind before (Some taken) = Some (record { size = taken.size; pages = before ++ taken.pages; freed = taken.freed })

-- blocks from an offset on, by offset: each begins at a multiple of 8, has a rounded size, ends on the page, and has
-- no byte of another
abbrev pub InOrder : ℕ → List Block → Type 0
InOrder low [] = Unit {0}
InOrder low (block ∷ blocks) =
    (low ≤ block.offset) × (0 < block.size) × (block.offset % 8 ≡ 0) × (block.size % 8 ≡ 0) × (block.offset + block.size ≤ 4096) × InOrder (block.offset + block.size) blocks

-- one large block at the start
pub record IsLarge (block : Block) (blocks : List Block) : Type 0 where
  pub large : is_large block.size ≡ true
  pub first : block.offset ≡ 0
  pub rounded : block.size % 8 ≡ 0
  pub alone : blocks ≡ []

-- smaller blocks in order
pub record AreShared (blocks : List Block) : Type 0 where
  pub shared : is_shared blocks ≡ true
  pub order : InOrder 0 blocks

abbrev pub AreBlocks : List Block → Type 0
AreBlocks [] = ⊥
AreBlocks (block ∷ blocks) = IsLarge block blocks ⊎ AreShared (block ∷ blocks)

-- No gap among smaller blocks in order is longer.
abbrev pub NoGapOver : ℕ → List Block → Type 0
NoGapOver most blocks = AreShared blocks → (size : ℕ) → most < size → lowest blocks size ≡ None

-- A block of so many bytes, at most half a page, may go to an offset among smaller blocks.
pub record CanPut (blocks : List Block) (offset size : ℕ) : Type 0 where
  pub shared : AreShared blocks
  pub room : has_room blocks size offset ≡ true
  pub some : 0 < size
  pub small : size ≤ 2048
  pub aligned : offset % 8 ≡ 0
  pub rounded : size % 8 ≡ 0

pub record IsPage (page : BlockPage) : Type 0 where
  pub blocks : AreBlocks page.blocks
  pub on_page : page.start % 4096 ≡ 0
  pub end : page.start + 4096 * pages_of page.blocks ≤ 2 ^ 47

-- Two have no page in common.
abbrev pub Apart : BlockPage → BlockPage → Type 0
Apart p q = (p.start + 4096 * pages_of p.blocks ≤ q.start) ⊎ (q.start + 4096 * pages_of q.blocks ≤ p.start)

abbrev pub ApartFrom : BlockPage → List BlockPage → Type 0
ApartFrom p [] = Unit {0}
ApartFrom p (q ∷ qs) = Apart p q × ApartFrom p qs

-- What is so of every pool: its pages have blocks in order, and no page is there twice.
abbrev pub IsPool : List BlockPage → Type 0
IsPool [] = Unit {0}
IsPool (page ∷ pages) = IsPage page × ApartFrom page pages × IsPool pages

-- Each page of the pool belongs to it in the map of pages.
abbrev pub Together : List BlockPage → PageList → Type 0
Together [] m = Unit {0}
Together (page ∷ pages) m = (owns m Pool page.start (pages_of page.blocks) ≡ true) × Together pages m

-- A taking that answers so leads from one pool to another.
abbrev pub TakeGives : Option (ℕ × Option PageSpan) → Option Taken → List BlockPage → List BlockPage → Type 0
TakeGives None wanted old new = (wanted ≡ None) × (new ≡ old)
TakeGives (Some taken) wanted old new = wanted ≡ Some (record { size = taken.0; pages = new; freed = taken.1 })

-- Pages that a pool needs no more can be freed, and behind that each page of the pool belongs to it still.
abbrev pub CanFree : Option PageSpan → List BlockPage → PageList → Type 0
CanFree None new m = Together new m
CanFree (Some span) new m = (freeing m Pool span.start span.count ≡ Ok tt) × Together new (changed m span.start span.count conventional)
