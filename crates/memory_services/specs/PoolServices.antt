-- AllocatePool and FreePool (UEFI 2.10, sections 7.2.4 and 7.2.5), where `see` is the place that each address shows and
-- `x` are the registers of the call.
use Rattle.std.specs.Prelude.{ℕ, List, Option, Some, None, Result, Ok, Err, if◌then◌else◌}
use Rattle.uh_base.specs.Statuses.{success, invalid_parameter, out_of_resources}
use Rattle.guest_memory.specs.Pages.{Pages, page_of}
use Rattle.guest_memory.specs.Changes.{cleared, zeroed}
use Rattle.page_alloc.specs.Pages.{PageList}
use Rattle.pool_alloc.specs.declared.span.PageSpan.{PageSpan}
use Rattle.pool_alloc.specs.declared.refusal.PoolRefusal.{PoolRefusal}
use Rattle.pool_alloc.specs.declared.refusal.PoolRefusal.TheVariants as refusals
use Rattle.pool_alloc.specs.Blocks.{rounded}
use Rattle.pool_alloc.specs.Pool.{BlockPage}
use Rattle.pool_alloc.specs.Calls.{Done, pool_allocation, pages_allocated, pool_freeing, pages_freed}
use Rattle.guest_call.specs.declared.answer.Answer.{Answer}
use Rattle.guest_call.specs.declared.answer.Answer.TheVariants.{Gives, LacksFrames}
use Rattle.guest_call.specs.Arguments.{argument, low_word}
use Rattle.guest_call.specs.Checks.{can_write}
use Rattle.memory_services.specs.Ram.{MemoryDone, number_written}
use Rattle.memory_services.specs.PageServices.{map_behind}

-- the status of a refusal
abbrev pub pool_status : PoolRefusal → ℕ
pool_status refusals.Invalid = invalid_parameter
pool_status refusals.NoPages = out_of_resources
pool_status refusals.Memory = out_of_resources

-- The memory with a block zeroed: pages that are taken for it, or given back with it, are cleared; elsewhere its bytes
-- become zeros, and no page is touched.
abbrev pub block_zeroed : Pages → Option PageSpan → ℕ → ℕ → Pages
block_zeroed m (Some span) at size = cleared m (page_of m span.start) span.count
block_zeroed m None at size = zeroed m at size

-- what AllocatePool comes to, and the memory, the map of its pages and the pool behind it
pub record PoolDone : Type 0 where
  pub answer : Answer
  pub memory : Pages
  pub pages : PageList
  pub pool : List BlockPage

-- the pool behind an answer, where a block was given
abbrev pub pool_behind : Answer → List BlockPage → List BlockPage → List BlockPage
pool_behind (Gives a0) pool given = given
pool_behind LacksFrames pool given = pool

-- A call that lacks frames gives no block.
abbrev pub with_block : MemoryDone → PageList → List BlockPage → Done → PoolDone
with_block done pages pool given =
    record { answer = done.answer; memory = done.memory; pages = map_behind done.answer pages given.pages; pool = pool_behind done.answer pool given.pool }

-- The block is zeroed, and then its address is written, also where the output lies in it.
abbrev pub block_given : (ℕ → Option ℕ) → Pages → PageList → List BlockPage → ℕ → ℕ → ℕ → Result Done PoolRefusal → PoolDone
block_given see m pages pool memory_type size output (Ok given) =
    with_block (number_written see m (block_zeroed m (pages_allocated pool pages memory_type size) given.answer (rounded size)) output 8 given.answer) pages pool given
block_given see m pages pool memory_type size output (Err refusal) = record { answer = Gives (pool_status refusal); memory = m; pages = pages; pool = pool }

-- AllocatePool(type, size, *address8)
unfoldable pub allocate_pool : List ℕ → (ℕ → Option ℕ) → Pages → PageList → List BlockPage → PoolDone
allocate_pool x see m pages pool =
    if can_write see m (argument 2 x) 8
    then block_given see m pages pool (low_word (argument 0 x)) (argument 1 x) (argument 2 x) (pool_allocation pool pages (low_word (argument 0 x)) (argument 1 x))
    else record { answer = Gives invalid_parameter; memory = m; pages = pages; pool = pool }

-- the status that FreePool gives, and the memory, the map of its pages and the pool behind it
pub record PoolFreed : Type 0 where
  pub status : ℕ
  pub memory : Pages
  pub pages : PageList
  pub pool : List BlockPage

abbrev pub block_freed : Pages → PageList → List BlockPage → ℕ → Result Done PoolRefusal → PoolFreed
block_freed m pages pool at (Ok freed) = record { status = success; memory = block_zeroed m (pages_freed pool at) at freed.answer; pages = freed.pages; pool = freed.pool }
block_freed m pages pool at (Err refusal) = record { status = pool_status refusal; memory = m; pages = pages; pool = pool }

-- FreePool(address): a block that is taken back is zeroed.
unfoldable pub free_pool : List ℕ → Pages → PageList → List BlockPage → PoolFreed
free_pool x m pages pool = block_freed m pages pool (argument 0 x) (pool_freeing pool pages (argument 0 x))
