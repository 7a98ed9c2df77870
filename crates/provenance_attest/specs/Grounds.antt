-- What the nodes of a certificate are judged over, in a machine's runtime state.
use Rattle.std.specs.Prelude.{ℕ, ◌≡◌, ◌-◌, ◌<◌, ◌^◌, Bool, true, List, length, drop, map, slice_index}
use Rattle.guest_memory.specs.Runs.{bytes_from}
use Rattle.address_view.specs.Windows.{see}
use Rattle.address_view.specs.Seen.{all_pass, is_seen}
use Rattle.map_faults.specs.Grounds.{Kept}
use Rattle.virtual_map.specs.States.{Runtime}
use Rattle.prov_cert.specs.declared.cert.CertSpan.{CertSpan}
use Rattle.prov_cert.specs.declared.cert.Class.{Class}
use Rattle.prov_cert.specs.declared.cert.Class.TheVariants.{Fixed}
use Rattle.prov_cert.specs.Cert.{Entry, Plain}
use Rattle.prov_cert.specs.Reading.{cells_in}
use Rattle.prov_layout.specs.Pieces.{AreOrdered}
use Rattle.prov_layout.specs.Laid.{laid}
use Rattle.provenance_check.specs.Ground.{AreFormed, End, Ground}
use Rattle.provenance_check.specs.Reached.{MarksReached}
use Rattle.provenance_tables.specs.Regions.{bytes_in, lens_of, size_of, starts_of}
use Rattle.provenance_tables.specs.Spans.{fixed_target}
use Rattle.provenance_attest.specs.Sites.{or_nought, sites_laid}

-- which nodes are reached: from an entry, from a notified function, and from the last of these
pub record Reaches : Type 0 where
  pub called : List Bool
  pub notified : List Bool
  pub last : List Bool

-- the nodes at which calls begin
abbrev pub first_nodes : List Entry → List ℕ
first_nodes entries = map (λ (e : Entry). e.node) entries

-- the last of some numbers, where there are any
abbrev pub last_of : List ℕ → List ℕ
last_of numbers = drop (length numbers - 1) numbers

pub record AreReaches (cert : Plain) (m : Reaches) : Type 0 where
  pub called : MarksReached cert.nodes (first_nodes cert.entries) m.called
  pub notified : MarksReached cert.nodes cert.notify m.notified
  pub last : MarksReached cert.nodes (last_of cert.notify) m.last

-- the offset of the image that a fixed span holds the address of
abbrev pub target_of : Kept → (ℕ → ℕ) → (starts : List ℕ) → CertSpan → Class → ℕ
target_of image bytes starts s Fixed = or_nought (fixed_target image bytes starts s)
target_of image bytes starts s _ = 0

abbrev pub targets_of : Kept → (ℕ → ℕ) → (starts : List ℕ) → List CertSpan → List ℕ
targets_of image bytes starts spans = map (λ (s : CertSpan). target_of image bytes starts s s.class) spans

-- The regions of a driver, the bytes of its image, its sites, and what its certificate lays over them.
unfoldable pub ground_of : Runtime → Kept → Plain → Reaches → Ground
ground_of r image cert m = record {
  starts = starts_of r image cert.regions;
  lens = lens_of image cert.regions;
  image = bytes_from (bytes_in r) image.base (size_of image);
  sites = sites_laid (bytes_in r) image;
  pieces = laid (slice_index (targets_of image (bytes_in r) (starts_of r image cert.regions) cert.spans)) cert.spans;
  nodes = cert.nodes;
  called = m.called;
  notified = m.notified;
  last = m.last;
  cells = cells_in cert.spans;
}

-- what the rules of nodes ask for before they are judged: the image is seen, regions end, and what is laid is in order
pub record CanBeJudged (r : Runtime) (image : Kept) (cert : Plain) : Type 0 where
  pub seen : all_pass (is_seen (see r.view) r.memory) image.base (size_of image) ≡ true
  pub end : End (starts_of r image cert.regions) (lens_of image cert.regions)
  pub order : (targets : ℕ → ℕ) → AreOrdered (laid targets cert.spans)
  pub sites : AreOrdered (sites_laid (bytes_in r) image)
  pub few : length image.sites < 2 ^ 32
  pub formed : AreFormed cert.nodes
