-- The law of one node: where what a certificate's rules say of it holds, two runs that stand there make one step alike.
use Rattle.std.specs.Prelude.{ℕ, ◌≡◌, ◌⊎◌, ◌+◌, ◌%◌, Bool, true, List, Option, Some, if◌then◌else◌, Contains}
use Rattle.rv_decode.specs.declared.insn.Insn.{Insn}
use Rattle.rv_step.specs.Exec.{State}
use Rattle.prov_types.specs.declared.kinds.Kind.{Kind}
use Rattle.prov_types.specs.declared.kinds.Kind.TheVariants.{Ptr}
use Rattle.prov_types.specs.declared.kinds.Place.{Place}
use Rattle.prov_types.specs.declared.kinds.Span.{Span}
use Rattle.prov_types.specs.Kinds.{IsProperKind, Regions}
use Rattle.prov_types.specs.Fits.{fits}
use Rattle.prov_types.specs.Narrow.{narrow}
use Rattle.prov_types.specs.Asked.{Forks, Goes, Jumps, KindAsk, Loads, Sets, Stores, asked_kinds, may_compare}
use Rattle.prov_cert.specs.declared.cert.StackPart.{StackPart}
use Rattle.prov_layout.specs.Loads.{read_kind}
use Rattle.prov_runs.specs.Memory.{converted}
use Rattle.prov_runs.specs.States.{with_kind}
use Rattle.prov_runs.specs.Steps.{AtNode, LoadsGive, PartsFit, Runs, StoresLeave, behind}
use Rattle.prov_runs.specs.NodeLaws.{BothStep, linked}

-- what a certificate says of a node: its offset of the image, and what is known there
pub record Known : Type 0 where
  pub at : ℕ
  pub kinds : ℕ → Kind
  pub parts : List StackPart

-- The nodes by their numbers, and the ways out of the image: offsets of regions, by the kinds that registers must have there.
pub record Graph : Type 0 where
  pub nodes : ℕ → Option Known
  pub doors : (r o : ℕ) → (ℕ → Kind) → Bool

-- the image and the ways out of it are at even addresses in both runs
pub record AreEven (g : Regions) (graph : Graph) : Type 0 where
  pub old_image : g.old 0 % 2 ≡ 0
  pub new_image : g.new 0 % 2 ≡ 0
  pub old_door : (r o : ℕ) (kinds : ℕ → Kind) → graph.doors r o kinds ≡ true → (g.old r + o) % 2 ≡ 0
  pub new_door : (r o : ℕ) (kinds : ℕ → Kind) → graph.doors r o kinds ≡ true → (g.new r + o) % 2 ≡ 0

-- a node that NEXT names stands at an offset, and what is known there serves it
pub record Leads (graph : Graph) (next : List ℕ) (to : ℕ) (kinds : ℕ → Kind) (parts : List StackPart) : Type 0 where
  pub number : ℕ
  pub node : Known
  pub named : Contains next number
  pub listed : graph.nodes number ≡ Some node
  pub at : node.at ≡ to
  pub kinds_fit : (r : ℕ) → fits (kinds r) (node.kinds r) ≡ true
  pub proper : (r : ℕ) → IsProperKind (node.kinds r)
  pub parts_fit : PartsFit parts node.parts

pub record LoadPasses (u : Runs) (notified : Bool) (cells : List ℕ) (graph : Graph) (next : List ℕ) (place : Place) (kinds : ℕ → Kind) (parts : List StackPart) (rd r : ℕ) (s : Span) (width : ℕ) (sign : Bool) : Type 0 where
  pub kind : Kind
  pub gives : LoadsGive u notified cells parts r s width kind
  pub leads : Leads graph next (behind place) (with_kind kinds rd (read_kind sign width kind)) parts

pub record StorePasses (u : Runs) (graph : Graph) (next : List ℕ) (place : Place) (kinds : ℕ → Kind) (parts : List StackPart) (r : ℕ) (s : Span) (width : ℕ) (kind : Kind) : Type 0 where
  pub after : List StackPart
  pub leaves : StoresLeave u parts r s width kind after
  pub leads : Leads graph next (behind place) kinds after

-- each edge of a branch that is possible leads to a node
pub record BranchPasses (graph : Graph) (next : List ℕ) (insn : Insn) (kinds : ℕ → Kind) (parts : List StackPart) (may : Bool) (a b : Kind) (passed target : ℕ) : Type 0 where
  pub compares : may ≡ true
  pub leads : (went : Bool) (x y : Kind) → narrow insn went a b ≡ Some (x, y) → Leads graph next (if went then target else passed) (with_kind (with_kind kinds insn.rs1 x) insn.rs2 y) parts

-- to an even offset of the image
pub record Inside (graph : Graph) (next : List ℕ) (r : ℕ) (s : Span) (kinds : ℕ → Kind) (parts : List StackPart) : Type 0 where
  pub image : r ≡ 0
  pub is_even : s.lo % 2 ≡ 0
  pub leads : Leads graph next s.lo kinds parts

-- a jump to one offset of a region: of the image, or on a way out
pub record JumpPasses (graph : Graph) (next : List ℕ) (r : ℕ) (s : Span) (kinds : ℕ → Kind) (parts : List StackPart) : Type 0 where
  pub single : s.lo ≡ s.hi
  pub where_to : Inside graph next r s kinds parts ⊎ (graph.doors r s.lo kinds ≡ true)

-- what the rules on memory, on jumps and on edges say of a node, by what its instruction asks for
abbrev pub Passes : Runs → (notified : Bool) → (cells : List ℕ) → Graph → (next : List ℕ) → Place → Insn → (ℕ → Kind) → List StackPart → KindAsk → Type 0
Passes u notified cells graph next place insn kinds parts (Sets rd kind) = Leads graph next (behind place) (with_kind kinds rd kind) parts
Passes u notified cells graph next place insn kinds parts (Loads rd (Ptr r s) width sign) = LoadPasses u notified cells graph next place kinds parts rd r s width sign
Passes u notified cells graph next place insn kinds parts (Stores (Ptr r s) width kind) = StorePasses u graph next place kinds parts r s width kind
Passes u notified cells graph next place insn kinds parts (Forks op a b passed target) = BranchPasses graph next insn kinds parts (may_compare op a b) a b passed target
Passes u notified cells graph next place insn kinds parts (Goes to rd) = Leads graph next to (linked u place kinds rd) parts
Passes u notified cells graph next place insn kinds parts (Jumps (Ptr r s) rd) = JumpPasses graph next r s (linked u place kinds rd) parts
Passes u notified cells graph next place insn kinds parts _ = ⊥

-- both runs step to one node that NEXT names
pub record AtNext (u : Runs) (graph : Graph) (next : List ℕ) (s t : State) : Type 0 where
  pub number : ℕ
  pub node : Known
  pub named : Contains next number
  pub listed : graph.nodes number ≡ Some node
  pub goes : BothStep u 0 node.at node.kinds node.parts s t

-- both runs step out of the image by one way
pub record AtDoor (u : Runs) (graph : Graph) (parts : List StackPart) (s t : State) : Type 0 where
  pub region : ℕ
  pub offset : ℕ
  pub kinds : ℕ → Kind
  pub door : graph.doors region offset kinds ≡ true
  pub goes : BothStep u region offset kinds parts s t

abbrev pub OneNode : Type 0
OneNode = (u : Runs) (notified : Bool) (cells : List ℕ) (graph : Graph) (next : List ℕ) (place : Place) (insn : Insn) (kinds : ℕ → Kind) (parts : List StackPart) (s t : State)
    → u.done ≡ converted notified cells → AreEven u.regions graph → AtNode u place insn kinds parts s t
    → Passes u notified cells graph next place insn kinds parts (asked_kinds u.regions.lens insn place kinds)
    → AtNext u graph next s t ⊎ AtDoor u graph parts s t
