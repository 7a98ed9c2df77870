-- One step of two runs at one node.
use Rattle.std.specs.Prelude.{ℕ, ◌≡◌, ◌≢◌, ◌⊎◌, ◌+◌, ◌<◌, ◌≤◌, Bool, true, false, List, Option, Some, None, slice_get}
use Rattle.uh_base.specs.Bytes.{plus}
use Rattle.rv_decode.specs.declared.insn.Insn.{Insn}
use Rattle.rv_step.specs.declared.bus.Access.{Access}
use Rattle.rv_step.specs.declared.bus.Access.TheVariants as access
use Rattle.rv_step.specs.Exec.{Outcome, Rights, State, Stopped, Stored, Went}
use Rattle.prov_types.specs.declared.kinds.Kind.{Kind}
use Rattle.prov_types.specs.declared.kinds.Place.{Place}
use Rattle.prov_types.specs.declared.kinds.Span.{Span}
use Rattle.prov_types.specs.Spans.{InSpan}
use Rattle.prov_types.specs.Kinds.{AreApart, IsProperKind, Regions, length_of}
use Rattle.prov_types.specs.Fits.{fits}
use Rattle.prov_cert.specs.declared.cert.StackPart.{StackPart}
use Rattle.prov_layout.specs.Pieces.{is_code, is_of, is_shut, piece_at, shown}
use Rattle.prov_layout.specs.Loads.{span_kind}
use Rattle.prov_layout.specs.Stores.{store_keeps}
use Rattle.prov_layout.specs.Stack.{part_kind, with_part}
use Rattle.prov_runs.specs.Bytes.{AreDisjoint}
use Rattle.prov_runs.specs.Sites.{target_at}
use Rattle.prov_runs.specs.Memory.{IsLaid, Layout}
use Rattle.prov_runs.specs.States.{Related, StandAt}
use Rattle.prov_runs.specs.StoreLaws.{is_stored_to}
use Rattle.prov_runs.specs.FetchLaws.{IsInsnAt}

-- What two runs are compared by: the regions, what is laid over them, the convertible cells that aren't compared, the image that
-- was judged, and the rights to the addresses of either run.
pub record Runs : Type 0 where
  pub regions : Regions
  pub laid : Layout
  pub done : List ℕ
  pub image : List ℕ
  pub old_rights : Rights
  pub new_rights : Rights

-- Regions lie apart, and what is laid lies in them; a region's bytes have the same rights in both runs; and the image's code may be
-- fetched.
pub record AreRuns (u : Runs) : Type 0 where
  pub apart : AreApart u.regions
  pub disjoint : AreDisjoint u.regions
  pub is_laid : IsLaid u.regions u.laid.pieces
  pub rights : (r o : ℕ) (right : Access) → o < length_of u.regions.lens r → u.new_rights right (u.regions.new r + o) ≡ u.old_rights right (u.regions.old r + o)
  pub code : (o : ℕ) → is_of is_code (piece_at u.laid.pieces 0 o) ≡ true → u.old_rights access.Fetch (u.regions.old 0 + o) ≡ true

-- Two runs stand at an instruction that was judged, with what is known there.
pub record AtNode (u : Runs) (place : Place) (insn : Insn) (kinds : ℕ → Kind) (parts : List StackPart) (s t : State) : Type 0 where
  pub are_runs : AreRuns u
  pub is_insn : IsInsnAt u.laid u.image place.at place.len insn
  pub target_is : place.target ≡ target_at u.laid.sites place.at
  pub proper : (r : ℕ) → IsProperKind (kinds r)
  pub related : Related u.regions u.laid u.done u.image s t
  pub stands : StandAt u.regions 0 place.at kinds parts s t

-- behind an instruction
abbrev pub behind : Place → ℕ
behind place = plus place.at place.len

abbrev pub reached : Outcome → Option State
reached (Went to) = Some to
reached (Stored at width value to) = Some to
reached (Stopped trap) = None

-- a store lies in a region
abbrev pub StoresInside : (start : ℕ → ℕ) → List ℕ → Outcome → Type 0
StoresInside start lens (Went to) = Unit {0}
StoresInside start lens (Stored at width value to) = (r : ℕ) × (o : ℕ) × (at ≡ start r + o) × (o + width ≤ length_of lens r)
StoresInside start lens (Stopped trap) = ⊥

-- Neither run traps. Both go on at one offset of a region, with what is known there, and share what they shared; and outside the
-- stack no byte changes that no store may change.
pub record BothGo (u : Runs) (r at : ℕ) (kinds : ℕ → Kind) (parts : List StackPart) (s t : State) (x y : Outcome) : Type 0 where
  pub left : State
  pub right : State
  pub first : reached x ≡ Some left
  pub second : reached y ≡ Some right
  pub old_inside : StoresInside u.regions.old u.regions.lens x
  pub new_inside : StoresInside u.regions.new u.regions.lens y
  pub related : Related u.regions u.laid u.done u.image left right
  pub stands : StandAt u.regions r at kinds parts left right
  pub others : (q o : ℕ) → o < length_of u.regions.lens q → q ≢ 1 → is_of is_stored_to (piece_at u.laid.pieces q o) ≡ false
      → (left.bytes (u.regions.old q + o) ≡ s.bytes (u.regions.old q + o)) × (right.bytes (u.regions.new q + o) ≡ t.bytes (u.regions.new q + o))

-- so many bytes at an offset are inside their region, and each has the right
pub record Allows (u : Runs) (right : Access) (r o width : ℕ) : Type 0 where
  pub inside : o + width ≤ length_of u.regions.lens r
  pub allowed : (i : ℕ) → i < width → u.old_rights right (u.regions.old r + o + i) ≡ true

-- an access to the stack, at one offset
pub record OnStack (u : Runs) (right : Access) (r : ℕ) (s : Span) (width : ℕ) : Type 0 where
  pub region : r ≡ 1
  pub one : s.lo ≡ s.hi
  pub allows : Allows u right 1 s.lo width

-- loads at the offsets of a span outside the stack
pub record LoadsOutside (u : Runs) (notified : Bool) (done : List ℕ) (r : ℕ) (s : Span) (width : ℕ) (kind : Kind) : Type 0 where
  pub allows : (o : ℕ) → InSpan s o → Allows u access.Load r o width
  pub gives : span_kind (shown (is_shut notified done) u.laid.pieces r) s width ≡ Some kind

-- loads at the offsets of a span give a kind
abbrev pub LoadsGive : Runs → (notified : Bool) → (done : List ℕ) → List StackPart → (r : ℕ) → Span → (width : ℕ) → Kind → Type 0
LoadsGive u notified done parts r s width kind = (OnStack u access.Load r s width × (kind ≡ part_kind parts s.lo width)) ⊎ LoadsOutside u notified done r s width kind

-- stores at the offsets of a span outside the stack
pub record StoresOutside (u : Runs) (r : ℕ) (s : Span) (width : ℕ) (kind : Kind) : Type 0 where
  pub allows : (o : ℕ) → InSpan s o → Allows u access.Store r o width
  pub keeps : (o : ℕ) → InSpan s o → store_keeps (piece_at u.laid.pieces r) o width kind ≡ true

-- stores at the offsets of a span leave these parts of the stack
abbrev pub StoresLeave : Runs → List StackPart → (r : ℕ) → Span → (width : ℕ) → Kind → List StackPart → Type 0
StoresLeave u parts r s width kind after = (OnStack u access.Store r s width × (after ≡ with_part s.lo width kind parts)) ⊎ (StoresOutside u r s width kind × (after ≡ parts))

-- a part with the same bytes, whose kind fits
pub record ServesPart (q p : StackPart) : Type 0 where
  pub at : q.at ≡ p.at
  pub width : q.width ≡ p.width
  pub kind : fits q.kind p.kind ≡ true
  pub proper : IsProperKind p.kind

-- each part that is wanted is there
abbrev pub PartsFit : List StackPart → List StackPart → Type 0
PartsFit have want = (i : ℕ) (p : StackPart) → slice_get want i ≡ Some p → (j : ℕ) × (q : StackPart) × (slice_get have j ≡ Some q) × ServesPart q p
