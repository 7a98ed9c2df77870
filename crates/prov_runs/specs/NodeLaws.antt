-- The laws of one step of two runs, by what the instruction asks for.
use Rattle.std.specs.Prelude.{ℕ, ◌≡◌, ◌≢◌, ◌+◌, ◌%◌, ◌<◌, Bool, true, List, Some, if◌then◌else◌}
use Rattle.rv_decode.specs.declared.insn.Insn.{Insn}
use Rattle.rv_decode.specs.declared.insn.Op.{Op}
use Rattle.rv_step.specs.declared.bus.Access.TheVariants as access
use Rattle.rv_step.specs.Exec.{State, step_of}
use Rattle.prov_types.specs.declared.kinds.Kind.{Kind}
use Rattle.prov_types.specs.declared.kinds.Kind.TheVariants.{Ptr}
use Rattle.prov_types.specs.declared.kinds.Place.{Place}
use Rattle.prov_types.specs.declared.kinds.Span.{Span}
use Rattle.prov_types.specs.Kinds.{IsProperKind, Regions, length_of}
use Rattle.prov_types.specs.Fits.{fits}
use Rattle.prov_types.specs.Transfer.{image_kind}
use Rattle.prov_types.specs.Narrow.{narrow}
use Rattle.prov_types.specs.Asked.{Forks, Goes, Jumps, KindAsk, Loads, Sets, Stops, Stores, asked_kinds, may_compare}
use Rattle.prov_cert.specs.declared.cert.StackPart.{StackPart}
use Rattle.prov_layout.specs.Loads.{read_kind}
use Rattle.prov_runs.specs.Memory.{converted}
use Rattle.prov_runs.specs.States.{StandAt, with_kind}
use Rattle.prov_runs.specs.Steps.{AtNode, BothGo, LoadsGive, OnStack, PartsFit, Runs, StoresLeave, behind, reached}

-- both make one step
abbrev pub BothStep : Runs → (r at : ℕ) → (kinds : ℕ → Kind) → List StackPart → (s t : State) → Type 0
BothStep u r at kinds parts s t = BothGo u r at kinds parts s t (step_of u.old_rights s) (step_of u.new_rights t)

-- An instruction that sets a register
abbrev pub SetsAtNode : Type 0
SetsAtNode = (u : Runs) (place : Place) (insn : Insn) (kinds : ℕ → Kind) (parts : List StackPart) (s t : State) (rd : ℕ) (kind : Kind)
    → AtNode u place insn kinds parts s t → asked_kinds u.regions.lens insn place kinds ≡ Sets rd kind
    → BothStep u 0 (behind place) (with_kind kinds rd kind) parts s t

-- A load
abbrev pub LoadsAtNode : Type 0
LoadsAtNode = (u : Runs) (notified : Bool) (done : List ℕ) (place : Place) (insn : Insn) (kinds : ℕ → Kind) (parts : List StackPart) (s t : State) (rd r : ℕ) (span : Span) (width : ℕ) (sign : Bool) (kind : Kind)
    → u.done ≡ converted notified done → AtNode u place insn kinds parts s t → asked_kinds u.regions.lens insn place kinds ≡ Loads rd (Ptr r span) width sign
    → LoadsGive u notified done parts r span width kind
    → BothStep u 0 (behind place) (with_kind kinds rd (read_kind sign width kind)) parts s t

-- A store
abbrev pub StoresAtNode : Type 0
StoresAtNode = (u : Runs) (place : Place) (insn : Insn) (kinds : ℕ → Kind) (parts after : List StackPart) (s t : State) (r : ℕ) (span : Span) (width : ℕ) (kind : Kind)
    → AtNode u place insn kinds parts s t → asked_kinds u.regions.lens insn place kinds ≡ Stores (Ptr r span) width kind
    → StoresLeave u parts r span width kind after
    → BothStep u 0 (behind place) kinds after s t

-- Both runs go one way, where that edge is possible and its kinds hold.
pub record BothFork (u : Runs) (insn : Insn) (a b : Kind) (next target : ℕ) (kinds : ℕ → Kind) (parts : List StackPart) (s t : State) : Type 0 where
  pub went : Bool
  pub x : Kind
  pub y : Kind
  pub narrowed : narrow insn went a b ≡ Some (x, y)
  pub goes : BothStep u 0 (if went then target else next) (with_kind (with_kind kinds insn.rs1 x) insn.rs2 y) parts s t

-- A branch
abbrev pub ForksAtNode : Type 0
ForksAtNode = (u : Runs) (place : Place) (insn : Insn) (kinds : ℕ → Kind) (parts : List StackPart) (s t : State) (op : Op) (a b : Kind) (next target : ℕ)
    → AtNode u place insn kinds parts s t → asked_kinds u.regions.lens insn place kinds ≡ Forks op a b next target → may_compare op a b ≡ true
    → BothFork u insn a b next target kinds parts s t

-- with the link of a jump
abbrev pub linked : Runs → Place → (ℕ → Kind) → (rd : ℕ) → ℕ → Kind
linked u place kinds rd = with_kind kinds rd (image_kind u.regions.lens (behind place))

-- A jump to an offset of the image
abbrev pub GoesAtNode : Type 0
GoesAtNode = (u : Runs) (place : Place) (insn : Insn) (kinds : ℕ → Kind) (parts : List StackPart) (s t : State) (to rd : ℕ)
    → AtNode u place insn kinds parts s t → asked_kinds u.regions.lens insn place kinds ≡ Goes to rd
    → BothStep u 0 to (linked u place kinds rd) parts s t

-- A jump to the one offset of a region that a target names, where it is an even address in both runs
abbrev pub JumpsAtNode : Type 0
JumpsAtNode = (u : Runs) (place : Place) (insn : Insn) (kinds : ℕ → Kind) (parts : List StackPart) (s t : State) (r : ℕ) (span : Span) (rd : ℕ)
    → AtNode u place insn kinds parts s t → asked_kinds u.regions.lens insn place kinds ≡ Jumps (Ptr r span) rd → span.lo ≡ span.hi
    → (u.regions.old r + span.lo) % 2 ≡ 0 → (u.regions.new r + span.lo) % 2 ≡ 0
    → BothStep u r span.lo (linked u place kinds rd) parts s t

-- an instruction that stores to the stack alone, or goes on without a store
abbrev pub StoresToStack : Runs → KindAsk → Type 0
StoresToStack u (Stores (Ptr r span) width kind) = OnStack u access.Store r span width
StoresToStack u (Stores _ width kind) = ⊥
StoresToStack u Stops = ⊥
StoresToStack u _ = Unit {0}

-- It changes no byte of another region.
abbrev pub OthersStand : Type 0
OthersStand = (u : Runs) (place : Place) (insn : Insn) (kinds : ℕ → Kind) (parts : List StackPart) (s t left : State)
    → AtNode u place insn kinds parts s t → StoresToStack u (asked_kinds u.regions.lens insn place kinds) → reached (step_of u.old_rights s) ≡ Some left
    → (q o : ℕ) → o < length_of u.regions.lens q → q ≢ 1 → left.bytes (u.regions.old q + o) ≡ s.bytes (u.regions.old q + o)

-- What holds at a place is of each kind, and of each part of the stack, that what is known there fits.
abbrev pub EdgesServe : Type 0
EdgesServe = (g : Regions) (r at : ℕ) (kinds want : ℕ → Kind) (parts wanted : List StackPart) (s t : State) → StandAt g r at kinds parts s t
    → ((n : ℕ) → fits (kinds n) (want n) ≡ true) → ((n : ℕ) → IsProperKind (want n)) → PartsFit parts wanted → StandAt g r at want wanted s t
