-- The images that stay when boot services end (UEFI 2.10, 7.4.6: ExitBootServices).
use Rattle.std.specs.Prelude.{ℕ, ◌==◌, Bool, false, List, length, map, replicate}
use Rattle.std.specs.List.{filter}
use Rattle.map_faults.specs.Grounds.{Kept}
use Rattle.image_services.specs.Images.{Loaded}

-- EFI_IMAGE_SUBSYSTEM_EFI_RUNTIME_DRIVER (UEFI 2.10, 2.1.1)
abbrev pub runtime_driver : ℕ
runtime_driver = 12

abbrev pub is_runtime_driver : Loaded → Bool
is_runtime_driver image = image.subsystem == runtime_driver

-- what stays of an image: where it is, and what moves with it, with a mark for each site
abbrev pub kept_image : Loaded → Kept
kept_image image = record { handle = image.handle; base = image.base; pages = image.pages; sites = image.sites; words = image.words; same = replicate (length image.sites) false }

-- The runtime drivers stay, started or not, in order of loading.
abbrev pub kept_drivers : List Loaded → List Kept
kept_drivers images = map kept_image (filter is_runtime_driver images)
