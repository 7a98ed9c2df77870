-- What is so of a node where none of its rules fails, as a law about its instruction needs it.
use Rattle.std.specs.Prelude.{ℕ, ◌≡◌, ◌⊎◌, ◌+◌, ◌%◌, ◌<◌, ◌≤◌, ◌==◌, Bool, true, false, List, [], ◌∷◌, Option, Some, None, slice_get, slice_index}
use Rattle.std.specs.List.{Contains, list_any}
use Rattle.rv_decode.specs.declared.insn.Insn.{Insn}
use Rattle.rv_decode.specs.declared.insn.Op.{Op}
use Rattle.rv_step.specs.declared.bus.Access.TheVariants as access
use Rattle.rv_step.specs.Exec.{Rights}
use Rattle.uh_base.specs.Bytes.{plus}
use Rattle.prov_types.specs.declared.kinds.Span.{Span}
use Rattle.prov_types.specs.declared.kinds.Kind.{Kind}
use Rattle.prov_types.specs.declared.kinds.Kind.TheVariants.{Num, Ptr}
use Rattle.prov_types.specs.declared.kinds.Place.{Place}
use Rattle.prov_types.specs.Spans.{InSpan, one}
use Rattle.prov_types.specs.Kinds.{IsProperKind, length_of}
use Rattle.prov_types.specs.Fits.{fits}
use Rattle.prov_types.specs.Narrow.{narrow}
use Rattle.prov_types.specs.Asked.{KindAsk, Sets, Loads, Stores, Forks, Goes, Jumps, Stops, asked_kinds, may_compare}
use Rattle.prov_cert.specs.declared.cert.StackPart.{StackPart}
use Rattle.prov_cert.specs.Cert.{Node}
use Rattle.prov_layout.specs.Pieces.{is_shut, piece_at, shown}
use Rattle.prov_layout.specs.Loads.{read_kind, span_kind}
use Rattle.prov_layout.specs.Stores.{is_number, store_keeps}
use Rattle.prov_layout.specs.Stack.{part_kind}
use Rattle.provenance_check.specs.Ground.{AreFormed, Ground}
use Rattle.provenance_check.specs.Registers.{kind_at, kinds_of, written}
use Rattle.provenance_check.specs.Reading.{insn_at, place_of}
use Rattle.provenance_check.specs.Successors.{Before, Successor, Target, Inner, Out, Converts, Astray, and_cell, cell_in, cell_number, even_offset, link_kind, on_at, parts_behind, target_by}
use Rattle.provenance_check.specs.Rules.{before, disposition, first_rule, is_exit, is_marked, is_value, site_rule}

-- a part with the same bytes, whose kind fits
pub record ServesPart (q p : StackPart) : Type 0 where
  pub at : q.at ≡ p.at
  pub width : q.width ≡ p.width
  pub kind : fits q.kind p.kind ≡ true

abbrev pub PartIn : List StackPart → StackPart → Type 0
PartIn [] p = ⊥
PartIn (q ∷ qs) p = ServesPart q p ⊎ PartIn qs p

-- each part that is wanted is there
abbrev pub PartsFit : List StackPart → List StackPart → Type 0
PartsFit have [] = Unit {0}
PartsFit have (p ∷ ps) = PartIn have p × PartsFit have ps

-- A node that NEXT names stands where the run goes on, and what is known there serves it.
pub record Leads (nodes : List Node) (next : List ℕ) (s : Successor) : Type 0 where
  pub number : ℕ
  pub node : Node
  pub named : Contains next number
  pub listed : slice_get nodes number ≡ Some node
  pub at : node.at ≡ s.to
  pub kinds : (r : ℕ) → fits (kind_at s.kinds r) (kind_at (kinds_of node.regs) r) ≡ true
  pub proper : (r : ℕ) → IsProperKind (kind_at (kinds_of node.regs) r)
  pub parts : PartsFit s.parts node.stack
  pub proper_parts : (i : ℕ) (p : StackPart) → slice_get node.stack i ≡ Some p → IsProperKind p.kind
  pub cells : (cell : ℕ) → list_any (λ c. c == cell) node.done ≡ list_any (λ c. c == cell) s.done

-- so many bytes of a region from an offset on are inside it, and each has the right
pub record AllowedAt (g : Ground) (right : ℕ → Bool) (r o width : ℕ) : Type 0 where
  pub inside : o + width ≤ length_of g.lens r
  pub allowed : (i : ℕ) → i < width → right (slice_index g.starts r + o + i) ≡ true

-- an access to the stack, at one offset
pub record OnStack (g : Ground) (right : ℕ → Bool) (r : ℕ) (s : Span) (width : ℕ) : Type 0 where
  pub region : r ≡ 1
  pub one : s.lo ≡ s.hi
  pub aligned : s.lo % width ≡ 0
  pub allowed : AllowedAt g right 1 s.lo width

-- loads at the offsets of a span of another region
pub record LoadsOutside (g : Ground) (allows : Rights) (b : Before) (r : ℕ) (s : Span) (width : ℕ) (kind : Kind) : Type 0 where
  pub region : (r == 1) ≡ false
  pub allowed : (o : ℕ) → InSpan s o → AllowedAt g (allows access.Load) r o width
  pub gives : span_kind (shown (is_shut b.notified b.done) g.pieces r) s width ≡ Some kind

-- loads at the offsets of a span give a kind
abbrev pub LoadsGive : Ground → Rights → Before → (r : ℕ) → Span → (width : ℕ) → Kind → Type 0
LoadsGive g allows b r s width kind = (OnStack g (allows access.Load) r s width × (kind ≡ part_kind b.parts s.lo width)) ⊎ LoadsOutside g allows b r s width kind

pub record LoadPasses (g : Ground) (allows : Rights) (b : Before) (next : List ℕ) (place : Place) (rd r : ℕ) (s : Span) (width : ℕ) (sign : Bool) : Type 0 where
  pub kind : Kind
  pub gives : LoadsGive g allows b r s width kind
  pub leads : Leads g.nodes next (on_at b (plus place.at place.len) (written b.kinds rd (read_kind sign width kind)))

-- stores at the offsets of a span of another region, which a notified function doesn't make
pub record StoresOutside (g : Ground) (allows : Rights) (b : Before) (r : ℕ) (s : Span) (width : ℕ) (kind : Kind) : Type 0 where
  pub region : (r == 1) ≡ false
  pub call : b.notified ≡ false
  pub allowed : (o : ℕ) → InSpan s o → AllowedAt g (allows access.Store) r o width
  pub keeps : (o : ℕ) → InSpan s o → store_keeps (piece_at g.pieces r) o width kind ≡ true

pub record StorePasses (g : Ground) (allows : Rights) (b : Before) (next : List ℕ) (place : Place) (r : ℕ) (s : Span) (width : ℕ) (kind : Kind) : Type 0 where
  pub stores : OnStack g (allows access.Store) r s width ⊎ StoresOutside g allows b r s width kind
  pub leads : Leads g.nodes next (record { to = plus place.at place.len; kinds = b.kinds; parts = parts_behind b.parts r s width kind; done = b.done })

-- an edge of a branch, where it is possible
abbrev pub EdgeLeads : Ground → Before → (next : List ℕ) → Insn → (to : ℕ) → Option (Kind × Kind) → Type 0
EdgeLeads g b next insn to None = Unit {0}
EdgeLeads g b next insn to (Some (x, y)) = Leads g.nodes next (on_at b to (written (written b.kinds insn.rs1 x) insn.rs2 y))

pub record BranchPasses (g : Ground) (b : Before) (next : List ℕ) (insn : Insn) (op : Op) (x y : Kind) (behind target : ℕ) : Type 0 where
  pub compares : may_compare op x y ≡ true
  pub taken : EdgeLeads g b next insn target (narrow insn true x y)
  pub passed : EdgeLeads g b next insn behind (narrow insn false x y)

-- a conversion: a1 is the one address of a convertible cell that isn't converted yet and may be written, and a0 says whether it may
-- be 0
pub record ConvertPasses (g : Ground) (allows : Rights) (b : Before) (kinds : List Kind) : Type 0 where
  pub region : ℕ
  pub span : Span
  pub cell_kind : Kind
  pub cell : ℕ
  pub address : kind_at kinds 11 ≡ Ptr region span
  pub one : span.lo ≡ span.hi
  pub is : cell_in span.lo (piece_at g.pieces region span.lo) ≡ Some (cell_kind, cell)
  pub debug : is_value (disposition cell_kind) (kind_at kinds 10) ≡ true
  pub writable : AllowedAt g (allows access.Store) region span.lo 8
  pub fresh : list_any (λ c. c == cell) b.done ≡ false

-- behind a conversion: where ra leads, an even offset of the image
pub record ConversionLeads (g : Ground) (b : Before) (next : List ℕ) (kinds : List Kind) : Type 0 where
  pub to : ℕ
  pub back : even_offset (kind_at kinds 1) ≡ Some to
  pub leads : Leads g.nodes next (record { to = to; kinds = written kinds 10 (Num (one 0)); parts = b.parts; done = and_cell (cell_number g.pieces (kind_at kinds 11)) b.done })

-- out of the function: sp is the end of the stack, and where a call ends a0 is a number
pub record OutPasses (b : Before) (kinds : List Kind) : Type 0 where
  pub stack : fits (kind_at kinds 2) (Ptr 1 (one 65536)) ≡ true
  pub value : b.notified ≡ false → is_number (kind_at kinds 10) ≡ true

-- a jump, by where it leads, with the kinds once its link is written
abbrev pub JumpPasses : Ground → Rights → Before → (next : List ℕ) → List Kind → Target → Type 0
JumpPasses g allows b next kinds (Inner to) = Leads g.nodes next (on_at b to kinds)
JumpPasses g allows b next kinds Out = OutPasses b kinds
JumpPasses g allows b next kinds Converts = ConvertPasses g allows b kinds × ConversionLeads g b next kinds
JumpPasses g allows b next kinds Astray = ⊥

-- what the rules from Load to Edge say, by what the instruction asks for
abbrev pub Passes : Ground → Rights → Before → (next : List ℕ) → Place → Insn → KindAsk → Type 0
Passes g allows b next place insn (Sets rd kind) = Leads g.nodes next (on_at b (plus place.at place.len) (written b.kinds rd kind))
Passes g allows b next place insn (Loads rd (Ptr r s) width sign) = LoadPasses g allows b next place rd r s width sign
Passes g allows b next place insn (Loads rd _ width sign) = ⊥
Passes g allows b next place insn (Stores (Ptr r s) width kind) = StorePasses g allows b next place r s width kind
Passes g allows b next place insn (Stores _ width kind) = ⊥
Passes g allows b next place insn (Forks op x y behind target) = BranchPasses g b next insn op x y behind target
Passes g allows b next place insn (Goes to rd) = Leads g.nodes next (on_at b to (written b.kinds rd (link_kind g place)))
Passes g allows b next place insn (Jumps to rd) = JumpPasses g allows b next (written b.kinds rd (link_kind g place)) (target_by b.notified to)
Passes g allows b next place insn Stops = Unit {0}

-- A node of a notified function leads to nodes of greater numbers, and no call reaches it.
pub record InOrder (g : Ground) (number : ℕ) (node : Node) : Type 0 where
  pub later : (n : ℕ) → Contains node.next n → number < n
  pub alone : is_marked g.called number ≡ false

-- what is so of a node where none of its rules fails
pub record Judged (g : Ground) (allows : Rights) (number : ℕ) (node : Node) : Type 0 where
  pub insn : Insn
  pub len : ℕ
  pub reads : insn_at g node.at ≡ Some (insn, len)
  pub site : site_rule g (place_of g node.at len) insn ≡ true
  pub passes : Passes g allows (before g number node) node.next (place_of g node.at len) insn (asked_kinds g.lens insn (place_of g node.at len) (kind_at (kinds_of node.regs)))
  pub order : is_marked g.notified number ≡ true → InOrder g number node
  pub converted : is_marked g.last number ≡ true → is_exit node ≡ true → (cell : ℕ) → cell < g.cells → list_any (λ c. c == cell) node.done ≡ true

-- Where no rule of a node fails, the node is judged.
abbrev pub NoneFailsJudges : Type 0
NoneFailsJudges = (g : Ground) (allows : Rights) (number : ℕ) (node : Node) → AreFormed g.nodes → first_rule g allows number node ≡ None → Judged g allows number node
