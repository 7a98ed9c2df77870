-- Each item's text is read as that item, and a certificate's text as that certificate.
use Rattle.std.specs.Prelude.{ℕ, ◌≡◌, ◌<◌, ◌≤◌, Some, Ok}
use Rattle.prov_types.specs.declared.kinds.Kind.{Kind}
use Rattle.prov_cert.specs.declared.cert.OwnRegion.{OwnRegion}
use Rattle.prov_cert.specs.declared.cert.CertSpan.{CertSpan}
use Rattle.prov_cert.specs.Cert.{Entry, Node, Plain}
use Rattle.prov_cert.specs.Forms.{Counts, kind_of, region_of, span_of, entry_of, node_of}
use Rattle.prov_cert.specs.Reading.{cert_in}
use Rattle.prov_cert.specs.Kept.{IsNumber, IsKind, IsStretch, IsEntry, IsNode, IsCert}
use Rattle.prov_cert.specs.Texts.{kind_text, region_text, stretch_text, entry_text, node_text, cert_lines}

-- no more regions, nodes and cells than a certificate may have
pub record AreFew (counts : Counts) : Type 0 where
  pub regions : counts.regions ≤ 32
  pub nodes : counts.nodes ≤ 4096
  pub cells : counts.cells ≤ 4096

abbrev pub KindsReadBack : Type 0
KindsReadBack = (regions : ℕ) (kind : Kind) → regions ≤ 32 → IsKind regions kind → kind_of regions (kind_text kind) ≡ Some kind

-- the own region of a number
abbrev pub RegionsReadBack : Type 0
RegionsReadBack = (number : ℕ) (region : OwnRegion) → number ≤ 32 → region.cell_region < number → IsNumber region.cell_at → IsNumber region.len → region_of number (region_text region) ≡ Some region

abbrev pub SpansReadBack : Type 0
SpansReadBack = (regions : ℕ) (span : CertSpan) → regions ≤ 32 → IsStretch regions span → span_of regions (stretch_text span) ≡ Some span

abbrev pub EntriesReadBack : Type 0
EntriesReadBack = (counts : Counts) (entry : Entry) → AreFew counts → IsEntry counts entry → entry_of counts (entry_text entry) ≡ Some entry

abbrev pub NodesReadBack : Type 0
NodesReadBack = (counts : Counts) (node : Node) → AreFew counts → IsNode counts node → node_of counts (node_text node) ≡ Some node

-- A certificate that keeps the forms is what its text says.
abbrev pub CertsReadBack : Type 0
CertsReadBack = (cert : Plain) → IsCert cert → cert_in (cert_lines cert) ≡ Ok cert
