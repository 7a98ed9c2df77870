-- A driver that stays, whose certificate passes the rules on it as a whole, before a virtual address map is made.
use Rattle.std.specs.Prelude.{ℕ, ◌≡◌, ◌<◌, Bool, true, List, Some, None, if◌then◌else◌, nat_lt, slice_index}
use Rattle.map_faults.specs.Grounds.{Call, Kept}
use Rattle.map_faults.specs.Faults.{first_fault}
use Rattle.virtual_map.specs.States.{Runtime}
use Rattle.runtime_turn.specs.Functions.{ground_of}
use Rattle.map_transition.specs.Wholes.{Whole}
use Rattle.prov_types.specs.Kinds.{AreApart, Regions, length_of}
use Rattle.prov_cert.specs.Cert.{Plain}
use Rattle.prov_cert.specs.Kept.{IsCert}
use Rattle.prov_runs.specs.Bytes.{AreDisjoint}
use Rattle.provenance_tables.specs.Regions.{kept_with, lens_of, starts_of}
use Rattle.provenance_tables.specs.Tables.{first_in_tables}
use Rattle.prov_laws.specs.Convert.{is_owned}
use Rattle.mapped_runs.specs.Places.{IsInDescriptor, MovesAsOne, moved_by}

-- The state is whole, the image stays, no rule from Phase to Notify fails of its certificate, and the map is accepted.
pub record IsChecked (r : Runtime) (call : Call) (image : Kept) (cert : Plain) : Type 0 where
  pub whole : Whole r
  pub accepted : first_fault (ground_of r) call ≡ None
  pub form : IsCert cert
  pub handle : ℕ
  pub stays : kept_with handle r.kept ≡ Some image
  pub marks : List (List Bool)
  pub passes : first_in_tables r handle cert marks ≡ None

-- ---- regions

-- where the regions of a driver begin before the map; one of no length, which no byte is in, anywhere
unfoldable pub starts_before : Runtime → Kept → Plain → ℕ → ℕ
starts_before r image cert n = if nat_lt 0 (length_of (lens_of image cert.regions) n) then slice_index (starts_of r image cert.regions) n else 4096

-- and where they do from the map on
unfoldable pub starts_after : Runtime → Call → Kept → Plain → ℕ → ℕ
starts_after r call image cert n =
    if nat_lt 0 (length_of (lens_of image cert.regions) n) then moved_by r call (slice_index (starts_of r image cert.regions) n) else 4096

-- the regions of a driver in two runs, one before the map and one from it on
abbrev pub regions_in : Runtime → Call → Kept → Plain → Regions
regions_in r call image cert = record { old = starts_before r image cert; new = starts_after r call image cert; lens = lens_of image cert.regions }

-- A region moves as one; one that is owned, which is any but the operating system's stack, arguments and return page, lies in one
-- runtime descriptor.
pub record RegionMoves (r : Runtime) (image : Kept) (cert : Plain) (n : ℕ) : Type 0 where
  pub as_one : MovesAsOne r (slice_index (starts_of r image cert.regions) n) (length_of (lens_of image cert.regions) n)
  pub owned : is_owned n ≡ true → IsInDescriptor r.descriptors (slice_index (starts_of r image cert.regions) n) (length_of (lens_of image cert.regions) n)

abbrev pub RegionsMove : Type 0
RegionsMove = (r : Runtime) (call : Call) (image : Kept) (cert : Plain) (n : ℕ) → IsChecked r call image cert → 0 < length_of (lens_of image cert.regions) n → RegionMoves r image cert n

-- Regions lie above 0 and end below 2^64, before the map and from it on;
abbrev pub RegionsAreApart : Type 0
RegionsAreApart = (r : Runtime) (call : Call) (image : Kept) (cert : Plain) → IsChecked r call image cert → AreApart (regions_in r call image cert)

-- and no two have an address in common.
abbrev pub RegionsAreDisjoint : Type 0
RegionsAreDisjoint = (r : Runtime) (call : Call) (image : Kept) (cert : Plain) → IsChecked r call image cert → AreDisjoint (regions_in r call image cert)
