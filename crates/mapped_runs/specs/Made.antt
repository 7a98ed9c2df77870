-- A virtual address map is made over a driver that was checked.
use Rattle.std.specs.Prelude.{ℕ, ◌≡◌, length}
use Rattle.guest_memory.specs.Pages.{Whole as IsMemory}
use Rattle.map_faults.specs.Grounds.{Call, Kept}
use Rattle.virtual_map.specs.States.{Runtime, SameParts}
use Rattle.map_transition.specs.Laws.{StayTouched}
use Rattle.map_transition.specs.Transitions.{all_moved, begun, run_all, tables_moved, words_moved}
use Rattle.prov_cert.specs.Cert.{Plain}
use Rattle.provenance_check.specs.Ground.{Ground}
use Rattle.provenance_tables.specs.Regions.{bytes_in, lens_of, rights_in}
use Rattle.prov_laws.specs.Behind.{ShowsAtNew}
use Rattle.mapped_runs.specs.Checked.{IsChecked, starts_after, starts_before}
use Rattle.mapped_runs.specs.Shown.{rights_after}

-- Code ran between two states, which leaves all but the bytes of memory and which of its pages are touched.
pub record IsLater (old new : Runtime) : Type 0 where
  pub parts : SameParts old new
  pub rights : new.memory.rights ≡ old.memory.rights
  pub bytes : length new.memory.bytes ≡ length old.memory.bytes
  pub touched : StayTouched old.memory new.memory

-- A driver was checked in one state; in another the transition begins, and behind the notified functions it comes to a third.
pub record IsMaking (r s ran : Runtime) : Type 0 where
  pub memory : IsMemory r.memory
  pub begins : IsLater r s
  pub functions : IsLater (begun s) ran

-- the state behind the fix-ups, where memory is seen as before, and the one behind the transition
abbrev pub fixed_up : Call → Runtime → Runtime
fixed_up call ran = tables_moved call.entries (words_moved call.entries ran)

abbrev pub made : Call → Runtime → Runtime
made call ran = all_moved call.entries ran

-- Notified functions do so.
abbrev pub FunctionsAreCode : Type 0
FunctionsAreCode = (s : Runtime) (call : Call) (sp : ℕ) → IsLater (begun s) (run_all call.entries sp s.notifies (begun s)).runtime

-- Behind the transition the new addresses show each region's bytes,
abbrev pub MadeShows : Type 0
MadeShows = (r s ran : Runtime) (call : Call) (image : Kept) (cert : Plain) (g : Ground) → IsChecked r call image cert → g.lens ≡ lens_of image cert.regions → IsMaking r s ran
    → ShowsAtNew g (starts_before r image cert) (starts_after r call image cert) (bytes_in (fixed_up call ran)) (bytes_in (made call ran))

-- with the rights that are asked of the second run.
abbrev pub MadeRights : Type 0
MadeRights = (r s ran : Runtime) (call : Call) (image : Kept) (cert : Plain) → IsChecked r call image cert → IsMaking r s ran → rights_in (made call ran) ≡ rights_after r call r.memory
