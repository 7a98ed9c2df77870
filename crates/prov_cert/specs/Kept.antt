-- What every certificate that is read keeps, whatever document says it.
use Rattle.std.specs.Prelude.{◌≡◌, ◌≤◌, ◌<◌, ◌+◌, ◌^◌, ◌%◌, ◌++◌, ℕ, List, [], ◌∷◌, length, true, false, Ok}
use Rattle.uh_base.specs.Names.{is_name}
use Rattle.prov_types.specs.declared.kinds.Span.{Span}
use Rattle.prov_types.specs.declared.kinds.Kind.{Kind}
use Rattle.prov_types.specs.declared.kinds.Kind.TheVariants.{Any, Num, Ptr, Opt}
use Rattle.prov_types.specs.Spans.{IsProper}
use Rattle.prov_cert.specs.declared.cert.OwnRegion.{OwnRegion}
use Rattle.prov_cert.specs.declared.cert.CertSpan.{CertSpan}
use Rattle.prov_cert.specs.declared.cert.Class.{Class}
use Rattle.prov_cert.specs.declared.cert.Class.TheVariants as classes
use Rattle.prov_cert.specs.declared.cert.RegKind.{RegKind}
use Rattle.prov_cert.specs.declared.cert.StackPart.{StackPart}
use Rattle.prov_cert.specs.Cert.{Entry, Node, Plain}
use Rattle.prov_cert.specs.Forms.{Counts, is_width, has_register, meets_none}
use Rattle.prov_cert.specs.Reading.{cells_in, cert_in}

-- a number of 64 bits
abbrev pub IsNumber : ℕ → Type 0
IsNumber n = n < 2 ^ 64

-- Whole steps lead from the low end to the high one, all of 64 bits.
pub record IsSpan (s : Span) : Type 0 where
  pub proper : IsProper s
  pub high : IsNumber s.hi
  pub step : IsNumber s.by

abbrev pub IsNumberKind : Kind → Type 0
IsNumberKind (Num s) = IsSpan s
IsNumberKind _ = ⊥

abbrev pub IsAddressKind : ℕ → Kind → Type 0
IsAddressKind regions (Ptr r s) = (r < regions) × IsSpan s
IsAddressKind regions (Opt r s) = (r < regions) × IsSpan s
IsAddressKind regions _ = ⊥

-- a kind, where there are so many regions
abbrev pub IsKind : ℕ → Kind → Type 0
IsKind regions Any = Unit {0}
IsKind regions (Num s) = IsSpan s
IsKind regions (Ptr r s) = (r < regions) × IsSpan s
IsKind regions (Opt r s) = (r < regions) × IsSpan s

-- Own regions from a number on: the cell of each lies in a region of a lower number.
abbrev pub AreRegions : ℕ → List OwnRegion → Type 0
AreRegions number [] = Unit {0}
AreRegions number (region ∷ regions) = (region.cell_region < number) × IsNumber region.cell_at × IsNumber region.len × AreRegions (number + 1) regions

-- the class of a span of so many bytes
abbrev pub IsClass : (regions len : ℕ) → Class → Type 0
IsClass regions len classes.Code = Unit {0}
IsClass regions len classes.Plain = Unit {0}
IsClass regions len (classes.Num kind) = (is_width len ≡ true) × IsNumberKind kind
IsClass regions len classes.Fixed = len ≡ 8
IsClass regions len (classes.Convert kind) = (len ≡ 8) × IsAddressKind regions kind

pub record IsStretch (regions : ℕ) (span : CertSpan) : Type 0 where
  pub region : span.region < regions
  pub at : IsNumber span.at
  pub len : IsNumber span.len
  pub class : IsClass regions span.len span.class

abbrev pub AreSpans : ℕ → List CertSpan → Type 0
AreSpans regions [] = Unit {0}
AreSpans regions (span ∷ spans) = IsStretch regions span × AreSpans regions spans

-- registers behind those before them, each named once
abbrev pub AreRegisters : ℕ → List RegKind → List RegKind → Type 0
AreRegisters regions before [] = Unit {0}
AreRegisters regions before (k ∷ kinds) = (k.reg < 32) × (has_register before k.reg ≡ false) × IsKind regions k.kind × AreRegisters regions (before ++ k ∷ []) kinds

-- a number of 1, 2, 4 or 8 bytes at a multiple of its width
pub record IsPart (regions : ℕ) (part : StackPart) : Type 0 where
  pub at : IsNumber part.at
  pub width : is_width part.width ≡ true
  pub aligned : part.at % part.width ≡ 0
  pub kind : IsKind regions part.kind

-- parts of the stack behind those before them, of which no two meet
abbrev pub AreParts : ℕ → List StackPart → List StackPart → Type 0
AreParts regions before [] = Unit {0}
AreParts regions before (part ∷ parts) = IsPart regions part × (meets_none before part.at part.width ≡ true) × AreParts regions (before ++ part ∷ []) parts

-- numbers of nodes or of cells, each of one that there is
abbrev pub AreBelow : ℕ → List ℕ → Type 0
AreBelow bound [] = Unit {0}
AreBelow bound (n ∷ numbers) = (n < bound) × AreBelow bound numbers

pub record IsEntry (counts : Counts) (entry : Entry) : Type 0 where
  pub name : is_name entry.name ≡ true
  pub node : entry.node < counts.nodes
  pub arg_kinds : AreRegisters counts.regions [] entry.arg_kinds

abbrev pub AreEntries : Counts → List Entry → Type 0
AreEntries counts [] = Unit {0}
AreEntries counts (entry ∷ entries) = IsEntry counts entry × AreEntries counts entries

pub record IsNode (counts : Counts) (node : Node) : Type 0 where
  pub at : IsNumber node.at
  pub regs : AreRegisters counts.regions [] node.regs
  pub stack : AreParts counts.regions [] node.stack
  pub next : AreBelow counts.nodes node.next
  pub done : AreBelow counts.cells node.done

abbrev pub AreNodes : Counts → List Node → Type 0
AreNodes counts [] = Unit {0}
AreNodes counts (node ∷ nodes) = IsNode counts node × AreNodes counts nodes

-- what the numbers in a certificate may name
abbrev pub named_in : Plain → Counts
named_in cert = record { regions = 6 + length cert.regions; nodes = length cert.nodes; cells = cells_in cert.spans }

-- a certificate that there is
pub record IsCert (cert : Plain) : Type 0 where
  pub few_regions : length cert.regions ≤ 26
  pub few_spans : length cert.spans ≤ 4096
  pub few_entries : length cert.entries ≤ 64
  pub few_notify : length cert.notify ≤ 16
  pub few_nodes : length cert.nodes ≤ 4096
  pub regions : AreRegions 6 cert.regions
  pub spans : AreSpans (6 + length cert.regions) cert.spans
  pub entries : AreEntries (named_in cert) cert.entries
  pub notify : AreBelow (length cert.nodes) cert.notify
  pub nodes : AreNodes (named_in cert) cert.nodes

-- Every certificate that is read keeps the forms.
abbrev pub CertsKeepForms : Type 0
CertsKeepForms = (bytes : List ℕ) (cert : Plain) → cert_in bytes ≡ Ok cert → IsCert cert
