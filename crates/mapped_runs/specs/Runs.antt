-- What a certificate is judged over, and that two runs of it are ones.
use Rattle.std.specs.Prelude.{ℕ, ◌≡◌, List, Option, Some, None, slice_get}
use Rattle.map_faults.specs.Grounds.{Call, Kept}
use Rattle.virtual_map.specs.States.{Runtime}
use Rattle.prov_cert.specs.declared.cert.CertSpan.{CertSpan}
use Rattle.prov_cert.specs.Cert.{Plain}
use Rattle.prov_layout.specs.Laid.{laid}
use Rattle.provenance_check.specs.Ground.{Ground}
use Rattle.provenance_tables.specs.Regions.{bytes_in, lens_of, rights_in, starts_of}
use Rattle.provenance_tables.specs.Spans.{fixed_target}
use Rattle.prov_laws.specs.Checked.{AreRunsOf}
use Rattle.mapped_runs.specs.Checked.{IsChecked, starts_after, starts_before}
use Rattle.mapped_runs.specs.Shown.{rights_after}

abbrev pub or_zero : Option ℕ → ℕ
or_zero None = 0
or_zero (Some n) = n

abbrev pub target_of : Kept → (bytes : ℕ → ℕ) → (starts : List ℕ) → Option CertSpan → ℕ
target_of image bytes starts None = 0
target_of image bytes starts (Some s) = or_zero (fixed_target image bytes starts s)

-- by the number of a fixed span, the offset of the image whose address it holds
abbrev pub targets_in : Runtime → Kept → Plain → ℕ → ℕ
targets_in r image cert i = target_of image (bytes_in r) (starts_of r image cert.regions) (slice_get cert.spans i)

-- the regions of a driver, what its certificate lays over them, and the certificate's nodes
pub record IsGroundOf (r : Runtime) (image : Kept) (cert : Plain) (g : Ground) : Type 0 where
  pub starts : g.starts ≡ starts_of r image cert.regions
  pub lens : g.lens ≡ lens_of image cert.regions
  pub pieces : g.pieces ≡ laid (targets_in r image cert) cert.spans
  pub nodes : g.nodes ≡ cert.nodes

-- Two runs of a driver that was checked, one before an accepted map and one from it on, are such as the laws of two runs ask for.
abbrev pub RunsAreOf : Type 0
RunsAreOf = (r : Runtime) (call : Call) (image : Kept) (cert : Plain) (g : Ground) → IsChecked r call image cert → IsGroundOf r image cert g
    → AreRunsOf g (starts_before r image cert) (starts_after r call image cert) (rights_in r) (rights_after r call r.memory)

-- So is one run of it before the map, taken twice.
abbrev pub RunIsOf : Type 0
RunIsOf = (r : Runtime) (call : Call) (image : Kept) (cert : Plain) (g : Ground) → IsChecked r call image cert → IsGroundOf r image cert g
    → AreRunsOf g (starts_before r image cert) (starts_before r image cert) (rights_in r) (rights_in r)
