-- Blocks of the pool that services give to their callers, of memory type 4 (EfiBootServicesData of UEFI 2.10, section 7.2.1),
-- where `see` is the place that each address shows.
use Rattle.std.specs.Prelude.{ℕ, ◌≡◌, ◌≤◌, ◌+◌, ◌*◌, ◌==◌, nat_lt, Bool, List, [], ◌∷◌, length, Option, Some, None, Result, Ok, Err, if◌then◌else◌}
use Rattle.uh_base.specs.Limits.{frame_limit}
use Rattle.uh_base.specs.Statuses.{success, out_of_resources}
use Rattle.guest_memory.specs.Lists.{count_true}
use Rattle.guest_memory.specs.Pages.{Pages, page_of}
use Rattle.guest_memory.specs.Changes.{cleared}
use Rattle.address_view.specs.declared.frames.ByteRange.{ByteRange}
use Rattle.address_view.specs.declared.view.Window.{Window}
use Rattle.address_view.specs.Windows.{see}
use Rattle.address_view.specs.Stored.{store_seen, stored, marked}
use Rattle.page_alloc.specs.Pages.{PageList}
use Rattle.pool_alloc.specs.Pool.{BlockPage}
use Rattle.pool_alloc.specs.Calls.{Done as PoolDone, pool_allocation, pages_allocated}
use Rattle.pool_alloc.specs.declared.refusal.PoolRefusal.{PoolRefusal}
use Rattle.pool_alloc.specs.declared.span.PageSpan.{PageSpan}
use Rattle.service_answer.specs.Answers.{Answer, gives, lacks_frames}
use Rattle.protocol_services.specs.declared.outputs.ListOutputs.{ListOutputs}

-- what a service answers, and the memory, the map of its pages and the pool behind it
pub record BlockDone : Type 0 where
  pub answer : Answer
  pub memory : Pages
  pub pages : PageList
  pub pool : List BlockPage

abbrev pub block_refused : Pages → PageList → List BlockPage → ℕ → BlockDone
block_refused m pages pool status = record { answer = gives status; memory = m; pages = pages; pool = pool }

-- the memory type of the blocks
abbrev pub block_type : ℕ
block_type = 4

-- each place of RAM at its own address, as the firmware sees it
abbrev pub as_ram : Pages → ℕ → Option ℕ
as_ram m = see (record { virt = m.base; phys = m.base; len = 4096 * m.pages } ∷ [])

-- Pages that are taken for a block are cleared.
abbrev pub opened : Pages → Option PageSpan → Pages
opened m None = m
opened m (Some span) = cleared m (page_of m span.start) span.count

-- The contents of a block are written.
abbrev pub with_contents : Pages → Option PageSpan → ℕ → List ℕ → Pages
with_contents m span at bytes = stored (as_ram m) (opened m span) at bytes

-- Two outputs are written in the order in which they stand among the arguments: the address of a list and the number of its
-- elements.
abbrev pub first_value : ListOutputs → ℕ → ℕ → ℕ
first_value o at count = if o.count_first then count else at

abbrev pub second_value : ListOutputs → ℕ → ℕ → ℕ
second_value o at count = if o.count_first then at else count

abbrev pub first_written : (ℕ → Option ℕ) → Pages → ListOutputs → ℕ → ℕ → Pages
first_written see m o at count = store_seen see m o.first 8 (first_value o at count)

abbrev pub outputs_written : (ℕ → Option ℕ) → Pages → ListOutputs → ℕ → ℕ → Pages
outputs_written see m o at count = store_seen see (first_written see m o at count) o.second 8 (second_value o at count)

-- All that is so behind the writes of a call; where they touch more than 65,536 pages in all, nothing changes.
abbrev pub if_frames : Pages → PageList → List BlockPage → BlockDone → BlockDone
if_frames m pages pool done = if nat_lt frame_limit (count_true done.memory.touched) then record { answer = lacks_frames; memory = m; pages = pages; pool = pool } else done

-- A block of these bytes is given, for so many elements.
abbrev pub block_given : (ℕ → Option ℕ) → Pages → PageList → List BlockPage → ListOutputs → List ℕ → ℕ → Option PageSpan → Result PoolDone PoolRefusal → BlockDone
block_given see m pages pool o bytes count span (Ok given) =
    if_frames m pages pool (record { answer = gives success; memory = outputs_written see (with_contents m span given.answer bytes) o given.answer count; pages = given.pages; pool = given.pool })
block_given see m pages pool o bytes count span (Err refusal) = block_refused m pages pool out_of_resources

-- An empty list is given.
abbrev pub none_given : (ℕ → Option ℕ) → Pages → PageList → List BlockPage → ListOutputs → ℕ → BlockDone
none_given see m pages pool o count = if_frames m pages pool (record { answer = gives success; memory = outputs_written see m o 0 count; pages = pages; pool = pool })

-- A list of so many elements is given, by its bytes. An empty one has address 0 and no block.
abbrev pub list_given : (ℕ → Option ℕ) → Pages → PageList → List BlockPage → ListOutputs → List ℕ → ℕ → BlockDone
list_given see m pages pool o bytes count =
    if length bytes == 0 then none_given see m pages pool o count
    else block_given see m pages pool o bytes count (pages_allocated pool pages block_type (length bytes)) (pool_allocation pool pages block_type (length bytes))

-- the address of a block that is given, 0 where none is
abbrev pub address_of : Result PoolDone PoolRefusal → ℕ
address_of (Ok given) = given.answer
address_of (Err refusal) = 0

-- the address that a block of a size will have
abbrev pub block_address : PageList → List BlockPage → ℕ → ℕ
block_address pages pool size = address_of (pool_allocation pool pages block_type size)

-- pages that lie in RAM
abbrev pub IsIn : Option PageSpan → ℕ → ℕ → Type 0
IsIn None base pages = Unit {0}
IsIn (Some span) base pages = (base ≤ span.start) × (span.start + 4096 * span.count ≤ base + 4096 * pages)

-- the touched marks once the bytes of a block and two outputs are written, from those before on
abbrev pub marks_behind : (ℕ → Option ℕ) → (ℕ → Option ℕ) → ℕ → List Bool → ByteRange → ListOutputs → List Bool
marks_behind ram see base marks block o = marked see base (marked see base (marked ram base marks block.at block.len) o.first 8) o.second 8

-- a view that shows RAM as the firmware sees it
abbrev pub IsRamView : List Window → Pages → Type 0
IsRamView ws m = ws ≡ record { virt = m.base; phys = m.base; len = 4096 * m.pages } ∷ []
