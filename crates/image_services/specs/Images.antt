-- The images that are loaded, in order of loading.
use Rattle.std.specs.Prelude.{ℕ, ◌==◌, not, Bool, true, List, Option, find, map, if◌then◌else◌}
use Rattle.std.specs.List.{filter}
use Rattle.base_reloc.specs.declared.site.Site.{Site}

-- An image in memory: its handle, the address of its first byte, how many pages it has, its subsystem, the addresses of its
-- entry point and of its block, whether it was started, and what moved with it, with the words there as the load left them.
pub record Loaded : Type 0 where
  pub handle : ℕ
  pub base : ℕ
  pub pages : ℕ
  pub subsystem : ℕ
  pub entry : ℕ
  pub block : ℕ
  pub started : Bool
  pub sites : List Site
  pub words : List ℕ

-- At most so many images are loaded at a time.
abbrev pub most_images : ℕ
most_images = 16

abbrev pub has_handle : ℕ → Loaded → Bool
has_handle handle image = image.handle == handle

-- the image of a handle
abbrev pub find_image : List Loaded → ℕ → Option Loaded
find_image images handle = find (has_handle handle) images

-- the images without that of a handle
abbrev pub without_image : List Loaded → ℕ → List Loaded
without_image images handle = filter (λ image. not (has_handle handle image)) images

-- the images, that of a handle started
abbrev pub started_at : ℕ → Loaded → Loaded
started_at handle image = if has_handle handle image then record image { started = true } else image

abbrev pub with_started : List Loaded → ℕ → List Loaded
with_started images handle = map (started_at handle) images
