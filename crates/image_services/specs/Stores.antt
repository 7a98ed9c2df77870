-- The loaded images, the memory that they lie in, and the protocols on handles.
use Rattle.std.specs.Prelude.{List}
use Rattle.guest_memory.specs.Pages.{Pages}
use Rattle.page_alloc.specs.Pages.{PageList}
use Rattle.pool_alloc.specs.Pool.{BlockPage}
use Rattle.protocol_db.specs.Registrations.{Protocols}
use Rattle.image_services.specs.Images.{Loaded}

-- memory, the types and owners of its pages, and the blocks of its pool
pub record Space : Type 0 where
  pub memory : Pages
  pub pages : PageList
  pub pool : List BlockPage

-- the loaded images, that, and the protocols on handles
pub record Store : Type 0 where
  pub images : List Loaded
  pub memory : Pages
  pub pages : PageList
  pub pool : List BlockPage
  pub protocols : Protocols

abbrev pub space_of : Store → Space
space_of s = record { memory = s.memory; pages = s.pages; pool = s.pool }

abbrev pub with_space : List Loaded → Protocols → Space → Store
with_space images protocols space = record { images = images; memory = space.memory; pages = space.pages; pool = space.pool; protocols = protocols }
