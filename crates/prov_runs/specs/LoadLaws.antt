-- The laws of loads in two runs.
use Rattle.std.specs.Prelude.{ℕ, ◌≡◌, ◌+◌, ◌≤◌, Bool, List, Some, IsTrue, ◌⊎◌}
use Rattle.uh_base.specs.Bytes.{is_width, number_at}
use Rattle.rv_step.specs.Exec.{as_read}
use Rattle.prov_types.specs.declared.kinds.Kind.{Kind}
use Rattle.prov_types.specs.declared.kinds.Span.{Span}
use Rattle.prov_types.specs.Spans.{InSpan}
use Rattle.prov_types.specs.Kinds.{AreApart, Holds, IsProperKind, Regions, length_of}
use Rattle.prov_cert.specs.declared.cert.StackPart.{StackPart}
use Rattle.prov_layout.specs.Pieces.{is_shut, shown}
use Rattle.prov_layout.specs.Joins.{join}
use Rattle.prov_layout.specs.Loads.{load_kind, read_kind, span_kind}
use Rattle.prov_layout.specs.Stack.{part_kind}
use Rattle.prov_runs.specs.Bytes.{AreBytes, NumberHolds}
use Rattle.prov_runs.specs.Memory.{IsLaid, Layout, Moved, PartsHold, converted}

-- values of either kind are of the least kind that both fit
abbrev pub JoinHolds : Type 0
JoinHolds = (g : Regions) (a b : Kind) (v w : ℕ) → IsProperKind a → IsProperKind b → Holds g a v w ⊎ Holds g b v w → Holds g (join a b) v w

-- Two memories that share what is laid, as a node may load it: of a notified function but for the cells that are converted.
pub record Loadable (g : Regions) (laid : Layout) (notified : Bool) (done : List ℕ) (b c : ℕ → ℕ) : Type 0 where
  pub apart : AreApart g
  pub is_laid : IsLaid g laid.pieces
  pub bytes : AreBytes b
  pub moved : Moved g laid (converted notified done) b c

-- A load outside the stack that is allowed gives, in both runs, numbers of the kind of what it loads.
abbrev pub LoadsHold : Type 0
LoadsHold = (g : Regions) (laid : Layout) (notified : Bool) (done : List ℕ) (b c : ℕ → ℕ) (r o width : ℕ) (kind : Kind)
    → Loadable g laid notified done b c → o + width ≤ length_of g.lens r
    → load_kind (shown (is_shut notified done) laid.pieces r) o width ≡ Some kind → NumberHolds g r o width kind b c

-- So does a load at any offset of a span, of the least common kind.
abbrev pub SpansHold : Type 0
SpansHold = (g : Regions) (laid : Layout) (notified : Bool) (done : List ℕ) (b c : ℕ → ℕ) (r : ℕ) (s : Span) (o width : ℕ) (kind : Kind)
    → Loadable g laid notified done b c → InSpan s o → o + width ≤ length_of g.lens r
    → span_kind (shown (is_shut notified done) laid.pieces r) s width ≡ Some kind → NumberHolds g r o width kind b c

-- A load of the stack gives what the part with just its bytes holds.
abbrev pub StackHolds : Type 0
StackHolds = (g : Regions) (parts : List StackPart) (b c : ℕ → ℕ) (o width : ℕ) → PartsHold g parts b c → NumberHolds g 1 o width (part_kind parts o width) b c

-- What is loaded, with or without its sign, is of the kind that is read.
abbrev pub ReadsHold : Type 0
ReadsHold = (g : Regions) (sign : Bool) (b c : ℕ → ℕ) (r o width : ℕ) (kind : Kind) → AreBytes b → IsTrue (is_width width) → NumberHolds g r o width kind b c
    → Holds g (read_kind sign width kind) (as_read sign width (number_at b (g.old r + o) width)) (as_read sign width (number_at c (g.new r + o) width))
