-- What is so of the state that runtime services need while boot services last, so that it is whole once they have ended.
use Rattle.std.specs.Prelude.{ℕ, ◌≡◌, ◌<◌, ◌≤◌, ◌%◌, false, List, length, Some}
use Rattle.std.specs.List.{All, AllPairs}
use Rattle.page_alloc.specs.declared.page.Owner.TheVariants.{Image}
use Rattle.page_alloc.specs.declared.page.Page.{Page}
use Rattle.page_alloc.specs.Pages.{PageList, page_at}
use Rattle.map_faults.specs.Rules.{behind}
use Rattle.virtual_map.specs.States.{Runtime, Belongs}
use Rattle.runtime_view.specs.Views.{view_before}
use Rattle.map_transition.specs.Images.{AreTouched, HasSites}
use Rattle.map_transition.specs.Laws.{AreFirmwares}
use Rattle.image_services.specs.Blocks.{code_type}
use Rattle.image_services.specs.Images.{Loaded, most_images}
use Rattle.image_services.specs.Kept.{kept_image}
use Rattle.image_services.specs.Laws.{AreInOrder}
use Rattle.image_services.specs.Stores.{Store}

-- a page of an image's, of the memory type of its code (UEFI 2.10, table 7.10)
abbrev pub image_page : Loaded → Page
image_page image = record { memory_type = code_type image.subsystem; owner = Image }

-- All pages of an image are images' pages, of the type of its code.
abbrev pub HasPages : PageList → Loaded → Type 0
HasPages pages image = (at : ℕ) → image.base ≤ at → at < behind image.base image.pages → page_at pages at ≡ Some (image_page image)

-- An image begins at a page of RAM and ends below the slot page, and its pages are its own. What moves with it lies in them,
-- and is touched.
pub record IsPlaced (r : Runtime) (image : Loaded) : Type 0 where
  pub on_page : image.base % 4096 ≡ 0
  pub low : r.layout.base ≤ image.base
  pub high : behind image.base image.pages ≤ r.layout.slots
  pub pages : HasPages r.pages image
  pub sites : HasSites r.memory (kept_image image)

-- Two images share no page.
abbrev pub ShareNone : Loaded → Loaded → Type 0
ShareNone a b = (at : ℕ) → a.base ≤ at → at < behind a.base a.pages → b.base ≤ at → at < behind b.base b.pages → ⊥

-- The state, the loaded images, and how many handles were made.
pub record BootWhole (r : Runtime) (images : List Loaded) (made : ℕ) : Type 0 where
  -- layout, memory and page map are of one RAM, and the layout's places are the firmware's own pages
  pub ram : Belongs r
  pub places : AreFirmwares r.layout r.pages
  -- RAM is seen at its own addresses
  pub view : r.view ≡ view_before r.layout
  pub gone : r.gone ≡ false
  pub mapped : r.mapped ≡ false
  -- the images are at most 16, each in its place, and no two share a page; their handles rise in order of loading
  pub placed : All (IsPlaced r) images
  pub apart : AllPairs ShareNone images
  pub few : length images ≤ most_images
  pub order : AreInOrder images made
  -- the operating system's arguments are touched
  pub arguments : AreTouched r.memory r.layout.os_args r.layout.os_return

-- ---- what image services work on

-- the state with the memory and the page map of a store
abbrev pub with_store : Runtime → Store → Runtime
with_store r s = record r { memory = s.memory; pages = s.pages }

-- It is so of a store's memory, page map, images and handles, beside the rest of a state.
abbrev pub StoreWhole : Runtime → Store → Type 0
StoreWhole r s = BootWhole (with_store r s) s.images s.protocols.handles.made
