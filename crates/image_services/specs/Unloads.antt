-- How an image is unloaded (UEFI 2.10, 7.4: UnloadImage, and what Exit and the return of an image leave).
use Rattle.std.specs.Prelude.{ℕ, ◌≤◌, ◌+◌, ◌*◌, Option, Some, None, Result, Ok, Err, if◌then◌else◌}
use Rattle.guest_memory.specs.Pages.{Pages, page_of}
use Rattle.guest_memory.specs.Changes.{cleared, zeroed}
use Rattle.page_alloc.specs.declared.page.Owner.TheVariants as owners
use Rattle.page_alloc.specs.declared.page.PageRefusal.{PageRefusal}
use Rattle.page_alloc.specs.Calls.{freeing, after_freeing}
use Rattle.pool_alloc.specs.declared.refusal.PoolRefusal.{PoolRefusal}
use Rattle.pool_alloc.specs.declared.span.PageSpan.{PageSpan}
use Rattle.pool_alloc.specs.Calls.{Done, pool_freeing, pages_freed}
use Rattle.image_services.specs.declared.refusal.UnloadRefusal.{UnloadRefusal}
use Rattle.image_services.specs.declared.refusal.UnloadRefusal.TheVariants as refusals
use Rattle.protocol_db.specs.Registrations.{Protocols}
use Rattle.protocol_db.specs.Calls.{discarded as protocol_discarded}
use Rattle.image_services.specs.Blocks.{loaded_image_protocol}
use Rattle.image_services.specs.Images.{Loaded, find_image, without_image}
use Rattle.image_services.specs.Stores.{Space, Store, space_of, with_space}

-- The memory without a block: a page that goes back with it is cleared, and elsewhere its bytes become zeros.
abbrev pub block_cleared : Pages → Option PageSpan → ℕ → ℕ → Pages
block_cleared m (Some span) at size = cleared m (page_of m span.start) span.count
block_cleared m None at size = zeroed m at size

abbrev pub block_freed : Space → ℕ → Result Done PoolRefusal → Space
block_freed s at (Ok done) = record { memory = block_cleared s.memory (pages_freed s.pool at) at done.answer; pages = done.pages; pool = done.pool }
block_freed s at (Err refusal) = s

-- The block at an address is freed, where one begins there.
unfoldable pub without_block : Space → ℕ → Space
without_block s at = block_freed s at (pool_freeing s.pool s.pages at)

abbrev pub pages_cleared : {X : Type 0} → Pages → ℕ → ℕ → Result X PageRefusal → Pages
pages_cleared m at count (Ok done) = cleared m (page_of m at) count
pages_cleared m at count (Err refusal) = m

-- So many pages from an address on are freed and cleared, where they are images'.
unfoldable pub without_pages : Space → ℕ → ℕ → Space
without_pages s at count =
    let answer = freeing s.pages owners.Image at count in record s { memory = pages_cleared s.memory at count answer; pages = after_freeing answer s.pages at count }

-- The loaded image protocol goes from a handle, whatever its interface and whoever opened it.
abbrev pub without_protocol : Protocols → ℕ → Protocols
without_protocol protocols handle = protocol_discarded protocols handle loaded_image_protocol

abbrev pub without_loaded : Store → Option Loaded → Store
without_loaded s None = s
without_loaded s (Some image) =
    with_space (without_image s.images image.handle) (without_protocol s.protocols image.handle) (without_pages (without_block (space_of s) image.block) image.base image.pages)

-- The image of a handle goes, with its protocol, its block and its pages; an unknown handle changes nothing.
unfoldable pub discarded : Store → ℕ → Store
discarded s handle = without_loaded s (find_image s.images handle)

abbrev pub unloaded_by : Store → Option Loaded → Result Store UnloadRefusal
unloaded_by s None = Err refusals.Unknown
unloaded_by s (Some image) = if image.started then Err refusals.Started else Ok (discarded s image.handle)

-- An image is unloaded unless it was started.
unfoldable pub unloaded : Store → ℕ → Result Store UnloadRefusal
unloaded s handle = unloaded_by s (find_image s.images handle)

-- A page that goes back with a block, or else its bytes, lie in memory.
abbrev pub ClearedInRam : Option PageSpan → Pages → ℕ → ℕ → Type 0
ClearedInRam (Some span) m at size = (m.base ≤ span.start) × (span.start + 4096 * span.count ≤ m.base + 4096 * m.pages)
ClearedInRam None m at size = (m.base ≤ at) × (at + size ≤ m.base + 4096 * m.pages)
