-- Memory, and the map of its pages, where `see` is the place that each address shows.
use Rattle.std.specs.Prelude.{ℕ, ◌≡◌, Option, length, if◌then◌else◌}
use Rattle.uh_base.specs.Statuses.{success}
use Rattle.guest_memory.specs.Pages.{Pages}
use Rattle.page_alloc.specs.Pages.{PageList}
use Rattle.address_view.specs.Stored.{lacks_seen, store_seen}
use Rattle.guest_call.specs.declared.answer.Answer.{Answer}
use Rattle.guest_call.specs.declared.answer.Answer.TheVariants.{Gives, LacksFrames}

-- the memory and the map are of one RAM
pub record IsOneRam (memory : Pages) (pages : PageList) : Type 0 where
  pub base : pages.base ≡ memory.base
  pub count : length pages.pages ≡ memory.pages

-- both are of the RAM that they were of
pub record SameRam (old new : Pages) (before after : PageList) : Type 0 where
  pub base : new.base ≡ old.base
  pub count : new.pages ≡ old.pages
  pub map_base : after.base ≡ before.base
  pub map_count : length after.pages ≡ length before.pages

-- what a service comes to, and the memory behind it
pub record MemoryDone : Type 0 where
  pub answer : Answer
  pub memory : Pages

-- A number of so many bytes is written into a memory that was prepared for it, as by clearing pages. Where that would
-- touch more than 65,536 pages, the memory is as before.
abbrev pub number_written : (ℕ → Option ℕ) → Pages → Pages → ℕ → ℕ → ℕ → MemoryDone
number_written see m prepared at width value =
    if lacks_seen see prepared at width then record { answer = LacksFrames; memory = m } else record { answer = Gives success; memory = store_seen see prepared at width value }
