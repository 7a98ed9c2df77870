-- What a driver's regions show before an accepted map and from it on.
use Rattle.std.specs.Prelude.{ℕ, ◌≡◌, ◌+◌, ◌<◌, List, Result, Ok, Err}
use Rattle.rv_step.specs.declared.bus.Access.{Access}
use Rattle.rv_step.specs.Exec.{Rights}
use Rattle.memory_map.specs.declared.descriptor.Descriptor.{Descriptor}
use Rattle.guest_memory.specs.Pages.{Pages, rights_at}
use Rattle.address_view.specs.Windows.{see, seen_bytes}
use Rattle.address_view.specs.Seen.{view_allows}
use Rattle.map_faults.specs.declared.pointer.ConvertRefusal.{ConvertRefusal}
use Rattle.map_faults.specs.Grounds.{Call, Kept}
use Rattle.map_faults.specs.Pointers.{converted}
use Rattle.virtual_map.specs.States.{Runtime}
use Rattle.runtime_view.specs.Views.{view_after, view_before}
use Rattle.prov_types.specs.Kinds.{length_of}
use Rattle.prov_cert.specs.Cert.{Plain}
use Rattle.provenance_check.specs.Ground.{Ground}
use Rattle.provenance_tables.specs.Regions.{lens_of}
use Rattle.prov_laws.specs.Behind.{ShowsAtNew}
use Rattle.prov_laws.specs.Convert.{Converts}
use Rattle.mapped_runs.specs.Checked.{IsChecked, regions_in, starts_after, starts_before}

-- ---- bytes and rights

-- the bytes that code sees before a map, and from it on, of the same memory
abbrev pub seen_before : Runtime → (ℕ → ℕ) → ℕ → ℕ
seen_before r bytes = seen_bytes (see (view_before r.layout)) bytes

abbrev pub seen_after : Runtime → Call → (ℕ → ℕ) → ℕ → ℕ
seen_after r call bytes = seen_bytes (see (view_after r.layout r.descriptors call.entries r.os_virtual)) bytes

-- and the rights there
abbrev pub rights_before : Runtime → Pages → Rights
rights_before r m = view_allows (see (view_before r.layout)) (rights_at m)

abbrev pub rights_after : Runtime → Call → Pages → Rights
rights_after r call m = view_allows (see (view_after r.layout r.descriptors call.entries r.os_virtual)) (rights_at m)

-- The new addresses show each region's bytes,
abbrev pub ViewShows : Type 0
ViewShows = (r : Runtime) (call : Call) (image : Kept) (cert : Plain) (g : Ground) (bytes : ℕ → ℕ) → IsChecked r call image cert → g.lens ≡ lens_of image cert.regions
    → ShowsAtNew g (starts_before r image cert) (starts_after r call image cert) (seen_before r bytes) (seen_after r call bytes)

-- with the rights that they have at the old ones.
abbrev pub RightsStay : Type 0
RightsStay = (r : Runtime) (call : Call) (image : Kept) (cert : Plain) (m : Pages) (n o : ℕ) (right : Access) → IsChecked r call image cert → o < length_of (lens_of image cert.regions) n
    → rights_after r call m right (starts_after r call image cert n + o) ≡ rights_before r m right (starts_before r image cert n + o)

-- ---- pointers

abbrev pub or_same : ℕ → Result ℕ ConvertRefusal → ℕ
or_same at (Ok new) = new
or_same at (Err refusal) = at

-- what ConvertPointer (UEFI 2.10, section 8.4) makes of a pointer that may be 0
unfoldable pub answer_of : List Descriptor → ℕ → ℕ
answer_of entries at = or_same at (converted entries 1 at)

-- It gives an address of an owned region the new one, and leaves 0.
abbrev pub PointersConvert : Type 0
PointersConvert = (r : Runtime) (call : Call) (image : Kept) (cert : Plain) → IsChecked r call image cert → Converts (regions_in r call image cert) (answer_of call.entries)
