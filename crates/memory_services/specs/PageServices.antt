-- AllocatePages and FreePages (UEFI 2.10, sections 7.2.1 and 7.2.2), where `see` is the place that each address shows
-- and `x` are the registers of the call.
use Rattle.std.specs.Prelude.{ℕ, List, Option, Result, Ok, Err, if◌then◌else◌}
use Rattle.uh_base.specs.Statuses.{success, invalid_parameter, not_found, out_of_resources}
use Rattle.guest_memory.specs.Pages.{Pages, page_of}
use Rattle.guest_memory.specs.Changes.{cleared}
use Rattle.page_alloc.specs.Pages.{PageList, changed, conventional}
use Rattle.page_alloc.specs.Calls.{allocation, after_allocation, freeing}
use Rattle.page_alloc.specs.declared.page.Owner.TheVariants as owners
use Rattle.page_alloc.specs.declared.page.PageRefusal.{PageRefusal}
use Rattle.page_alloc.specs.declared.page.PageRefusal.TheVariants as refusals
use Rattle.guest_call.specs.declared.answer.Answer.{Answer}
use Rattle.guest_call.specs.declared.answer.Answer.TheVariants.{Gives, LacksFrames}
use Rattle.guest_call.specs.Arguments.{argument, low_word}
use Rattle.guest_call.specs.Checks.{can_write, number_seen}
use Rattle.memory_services.specs.Ram.{MemoryDone, number_written}

-- the status of a refusal
abbrev pub page_status : PageRefusal → ℕ
page_status refusals.Invalid = invalid_parameter
page_status refusals.NotFound = not_found
page_status refusals.NoPages = out_of_resources

-- what AllocatePages comes to, and the memory and the map of its pages behind it
pub record PagesDone : Type 0 where
  pub answer : Answer
  pub memory : Pages
  pub pages : PageList

-- the map behind an answer, where pages were given
abbrev pub map_behind : Answer → PageList → PageList → PageList
map_behind (Gives a0) pages given = given
map_behind LacksFrames pages given = pages

-- A call that lacks frames gives no pages.
abbrev pub with_map : MemoryDone → PageList → PageList → PagesDone
with_map done pages given = record { answer = done.answer; memory = done.memory; pages = map_behind done.answer pages given }

-- The pages are cleared, which gives them all rights, and then the address of the first is written, also where the output
-- lies in them.
abbrev pub pages_given : (ℕ → Option ℕ) → Pages → PageList → ℕ → ℕ → ℕ → Result ℕ PageRefusal → PagesDone
pages_given see m pages memory_type count at (Ok start) =
    with_map (number_written see m (cleared m (page_of m start) count) at 8 start) pages (after_allocation (Ok start) pages owners.Pages memory_type count)
pages_given see m pages memory_type count at (Err refusal) = record { answer = Gives (page_status refusal); memory = m; pages = pages }

-- AllocatePages(kind, type, pages, *address8)
unfoldable pub allocate_pages : List ℕ → (ℕ → Option ℕ) → Pages → PageList → PagesDone
allocate_pages x see m pages =
    if can_write see m (argument 3 x) 8
    then pages_given see m pages (low_word (argument 1 x)) (argument 2 x) (argument 3 x)
    (allocation pages (low_word (argument 0 x)) (low_word (argument 1 x)) (argument 2 x) (number_seen see m (argument 3 x) 8))
    else record { answer = Gives invalid_parameter; memory = m; pages = pages }

-- the status that FreePages gives, and the memory and the map of its pages behind it
pub record PagesFreed : Type 0 where
  pub status : ℕ
  pub memory : Pages
  pub pages : PageList

abbrev pub pages_freed : Pages → PageList → ℕ → ℕ → Result (Unit {0}) PageRefusal → PagesFreed
pages_freed m pages at count (Ok done) = record { status = success; memory = cleared m (page_of m at) count; pages = changed pages at count conventional }
pages_freed m pages at count (Err refusal) = record { status = page_status refusal; memory = m; pages = pages }

-- FreePages(address, pages): pages that are taken back are cleared.
unfoldable pub free_pages : List ℕ → Pages → PageList → PagesFreed
free_pages x m pages = pages_freed m pages (argument 0 x) (argument 1 x) (freeing pages owners.Pages (argument 0 x) (argument 1 x))
