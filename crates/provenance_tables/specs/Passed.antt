-- What is so of a driver and its certificate where none of the rules on them as a whole fails.
use Rattle.std.specs.Prelude.{ℕ, ◌≡◌, ◌+◌, ◌<◌, ◌≤◌, ◌⊎◌, Bool, true, false, List, length, Some, None, slice_get}
use Rattle.map_faults.specs.Grounds.{Kept}
use Rattle.virtual_map.specs.States.{Runtime}
use Rattle.prov_types.specs.Kinds.{length_of}
use Rattle.prov_cert.specs.declared.cert.CertSpan.{CertSpan}
use Rattle.prov_cert.specs.Cert.{Entry, Plain}
use Rattle.prov_cert.specs.Kept.{IsCert}
use Rattle.prov_layout.specs.Pieces.{AreOrdered}
use Rattle.prov_layout.specs.Laid.{laid, spans_meet}
use Rattle.provenance_check.specs.Entries.{entry_rule}
use Rattle.provenance_tables.specs.Regions.{kept_with, lens_of, region_passes, rights_in, starts_of}
use Rattle.provenance_tables.specs.Spans.{data_passes, may_run}
use Rattle.provenance_tables.specs.Tables.{first_in_tables, notify_passes}

-- A span is inside its region, which is the image or an own one, and may be executed where it is code.
pub record Lies (r : Runtime) (starts lens : List ℕ) (s : CertSpan) : Type 0 where
  pub inside : s.at + s.len ≤ length_of lens s.region
  pub region : (s.region ≡ 0) ⊎ (5 < s.region)
  pub runs : may_run (rights_in r) starts s s.class ≡ true

-- what the rules from Region to Notify say, of an image and the regions of its certificate
pub record TablesPass (r : Runtime) (image : Kept) (cert : Plain) (starts lens : List ℕ) (marks : List (List Bool)) : Type 0 where
  pub regions : (n : ℕ) → n < length starts → region_passes r starts lens cert.regions cert.spans n ≡ true
  pub lie : (i : ℕ) (s : CertSpan) → slice_get cert.spans i ≡ Some s → Lies r starts lens s
  pub apart : (i j : ℕ) (s t : CertSpan) → slice_get cert.spans i ≡ Some s → slice_get cert.spans j ≡ Some t → i < j → 0 < s.len → 0 < t.len → spans_meet s t ≡ false
  -- so all that is laid is in order, whatever fixed spans hold
  pub ordered : (targets : ℕ → ℕ) → AreOrdered (laid targets cert.spans)
  pub hold : (i : ℕ) → i < length cert.spans → data_passes image r starts lens cert.spans i ≡ true
  pub entries : (i : ℕ) (e : Entry) → slice_get cert.entries i ≡ Some e → entry_rule cert.nodes e ≡ true
  pub functions : length cert.notify ≡ length r.notifies
  pub notified : (i : ℕ) → i < length cert.notify → notify_passes image starts lens r.notifies cert.nodes cert.notify marks i ≡ true

-- the driver stays, boot services are over, no map was made, and the other rules say what they do
pub record Stands (r : Runtime) (handle : ℕ) (cert : Plain) (marks : List (List Bool)) : Type 0 where
  pub image : Kept
  pub kept : kept_with handle r.kept ≡ Some image
  pub gone : r.gone ≡ true
  pub unmapped : r.mapped ≡ false
  pub passes : TablesPass r image cert (starts_of r image cert.regions) (lens_of image cert.regions) marks

-- Where none of these rules fails of a certificate that keeps its forms, the driver stands so.
abbrev pub NoneFailsStands : Type 0
NoneFailsStands = (r : Runtime) (handle : ℕ) (cert : Plain) (marks : List (List Bool)) → IsCert cert → first_in_tables r handle cert marks ≡ None → Stands r handle cert marks
