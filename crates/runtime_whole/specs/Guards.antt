-- What calls leave of the pages that no guest gives back.
use Rattle.std.specs.Prelude.{ℕ, ◌≡◌, Bool, true, false, Some}
use Rattle.page_alloc.specs.declared.page.Owner.{Owner}
use Rattle.page_alloc.specs.declared.page.Owner.TheVariants.{Free, Firmware, Pages, Pool, Image}
use Rattle.page_alloc.specs.declared.page.Page.{Page}
use Rattle.page_alloc.specs.Pages.{page_at}
use Rattle.guest_memory.specs.Pages.{touched_at}
use Rattle.virtual_map.specs.States.{Runtime, Belongs}

-- The firmware's pages and those of images aren't given back by FreePages and FreePool.
abbrev pub is_guarded : Owner → Bool
is_guarded Free = false
is_guarded Firmware = true
is_guarded Pages = false
is_guarded Pool = false
is_guarded Image = true

-- a page has a type and an owner, and is the firmware's or an image's
abbrev pub IsGuarded : Runtime → ℕ → Page → Type 0
IsGuarded r at page = (page_at r.pages at ≡ Some page) × (is_guarded page.owner ≡ true)

-- From one state to another such pages keep their types and owners, and those that are touched stay so. Layout and view are
-- the same, and boot services last as they did.
pub record LeavesGuarded (old new : Runtime) : Type 0 where
  pub layout : new.layout ≡ old.layout
  pub ram : Belongs new
  pub view : new.view ≡ old.view
  pub gone : new.gone ≡ old.gone
  pub mapped : new.mapped ≡ old.mapped
  pub pages : (at : ℕ) (page : Page) → IsGuarded old at page → page_at new.pages at ≡ Some page
  pub touched : (at : ℕ) (page : Page) → IsGuarded old at page → touched_at old.memory at ≡ true → touched_at new.memory at ≡ true
