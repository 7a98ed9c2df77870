-- The laws about two runs.
use Rattle.std.specs.Prelude.{ℕ, ◌≡◌, ◌+◌, ◌≤◌, Bool, true, List, slice_index, Option, Some, None, FitsSigned}
use Rattle.std.specs.Int.{w64}
use Rattle.rv_decode.specs.declared.insn.Insn.{Insn}
use Rattle.rv_step.specs.Asks.{asks, compares}
use Rattle.uh_base.specs.Bytes.{plus}
use Rattle.rv_step.specs.Numbers.{AreNumbers}
use Rattle.prov_types.specs.declared.kinds.Kind.{Kind}
use Rattle.prov_types.specs.declared.kinds.Place.{Place}
use Rattle.prov_types.specs.Kinds.{Regions, AreApart, EndsIn64Bits, Holds, IsProperKind, length_of}
use Rattle.prov_types.specs.Fits.{fits}
use Rattle.prov_types.specs.Transfer.{transfer}
use Rattle.prov_types.specs.Narrow.{narrow}
use Rattle.prov_types.specs.Asked.{AskHolds, BothHold, SiteHolds, WrittenHolds, asked_kinds, may_compare}

-- a value of a kind is of each kind that it fits
abbrev pub FitsIsSound : Type 0
FitsIsSound = (regions : Regions) (a b : Kind) (v w : ℕ) → IsProperKind b → fits a b ≡ true → Holds regions a v w → Holds regions b v w

-- a kind fits itself
abbrev pub FitsIsReflexive : Type 0
FitsIsReflexive = (a : Kind) → IsProperKind a → fits a a ≡ true

-- a kind that fits another fits all that the other fits
abbrev pub FitsIsTransitive : Type 0
FitsIsTransitive = (a b c : Kind) → IsProperKind a → IsProperKind b → IsProperKind c → fits a b ≡ true → fits b c ≡ true → fits a c ≡ true

-- One instruction in two runs, at one offset of an image that lies elsewhere. Their registers are numbers of 64 bits.
pub record OneInstruction (g : Regions) (insn other : Insn) (place : Place) (x y : List ℕ) (pc qc : ℕ) : Type 0 where
  pub apart : AreApart g
  pub fits : FitsSigned w64 insn.imm
  pub first_numbers : AreNumbers x
  pub second_numbers : AreNumbers y
  pub site : SiteHolds g place.target insn other
  pub first_at : pc ≡ g.old 0 + place.at
  pub second_at : qc ≡ g.new 0 + place.at
  pub inside : place.at + place.len ≤ length_of g.lens 0

-- Values of the operands' kinds give a result of the transferred kind, in both runs.
abbrev pub TransferIsSound : Type 0
TransferIsSound = (g : Regions) (insn other : Insn) (place : Place) (a b : Kind) (x y : List ℕ) (pc qc : ℕ)
    → OneInstruction g insn other place x y pc qc
    → Holds g a (slice_index x insn.rs1) (slice_index y insn.rs1)
    → Holds g b (slice_index x insn.rs2) (slice_index y insn.rs2)
    → WrittenHolds g (transfer insn place a b g.lens) (plus pc place.len) (plus qc place.len) (asks insn place.len x pc) (asks other place.len y qc)

-- The transferred kind of kinds with proper spans has a proper span.
abbrev pub TransferIsProper : Type 0
TransferIsProper = (insn : Insn) (place : Place) (a b : Kind) (lens : List ℕ) → IsProperKind a → IsProperKind b → IsProperKind (transfer insn place a b lens)

-- Kinds that fit those of the operands give a kind that fits the transferred one.
abbrev pub TransferIsMonotone : Type 0
TransferIsMonotone = (insn : Insn) (place : Place) (a b wide_a wide_b : Kind) (lens : List ℕ)
    → IsProperKind a → IsProperKind b → IsProperKind wide_a → IsProperKind wide_b → EndsIn64Bits a
    → fits a wide_a ≡ true → fits b wide_b ≡ true → fits (transfer insn place a b lens) (transfer insn place wide_a wide_b lens) ≡ true

-- What the kinds of registers say of all that is asked: the register that is set, the address of a load or a store, the target of
-- a jump, and that a branch goes one way in both runs.
abbrev pub AsksHold : Type 0
AsksHold = (g : Regions) (insn other : Insn) (place : Place) (kinds : ℕ → Kind) (x y : List ℕ) (pc qc : ℕ)
    → OneInstruction g insn other place x y pc qc
    → ((r : ℕ) → IsProperKind (kinds r))
    → ((r : ℕ) → Holds g (kinds r) (slice_index x r) (slice_index y r))
    → AskHolds g (slice_index x insn.rs1) (slice_index y insn.rs1) (slice_index x insn.rs2) (slice_index y insn.rs2)
    (asked_kinds g.lens insn place kinds) (asks insn place.len x pc) (asks other place.len y qc)

-- For a branch that may be judged the comparison has one outcome in both runs.
abbrev pub ComparesAlike : Type 0
ComparesAlike = (g : Regions) (insn : Insn) (a b : Kind) (v v' w w' : ℕ) → AreApart g → may_compare insn.op a b ≡ true
    → Holds g a v v' → Holds g b w w' → compares insn.op v w ≡ compares insn.op v' w'

-- On the edge where that outcome leads, narrowing leaves kinds, and the values are of them.
abbrev pub NarrowIsSound : Type 0
NarrowIsSound = (g : Regions) (insn : Insn) (a b : Kind) (v v' w w' : ℕ) → AreApart g → IsProperKind a → IsProperKind b
    → may_compare insn.op a b ≡ true → Holds g a v v' → Holds g b w w' → BothHold g v v' w w' (narrow insn (compares insn.op v w) a b)

-- kinds with proper spans, where there are kinds
abbrev pub AreProper : Option (Kind × Kind) → Type 0
AreProper None = Unit {0}
AreProper (Some (a, b)) = IsProperKind a × IsProperKind b

-- What narrowing leaves of kinds with proper spans has proper spans.
abbrev pub NarrowIsProper : Type 0
NarrowIsProper = (insn : Insn) (went : Bool) (a b : Kind) → IsProperKind a → IsProperKind b → AreProper (narrow insn went a b)
