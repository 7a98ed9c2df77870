-- How a call begins in two runs: its registers by the entry's arguments, and buffers in the OS arguments, region 2.
use Rattle.std.specs.Prelude.{ℕ, ◌≡◌, ◌≢◌, ◌+◌, ◌<◌, ◌≤◌, true, List, [], ◌∷◌, Some, slice_get, slice_index, length}
use Rattle.std.specs.List.{Contains}
use Rattle.uh_base.specs.Bytes.{next, plus, with_byte}
use Rattle.rv_step.specs.Exec.{Rights, State}
use Rattle.prov_types.specs.declared.kinds.Span.{Span}
use Rattle.prov_types.specs.declared.kinds.Kind.{Kind}
use Rattle.prov_types.specs.declared.kinds.Kind.TheVariants.{Num, Ptr, Opt}
use Rattle.prov_types.specs.Spans.{InSpan}
use Rattle.prov_types.specs.Kinds.{length_of}
use Rattle.prov_cert.specs.declared.cert.RegKind.{RegKind}
use Rattle.prov_cert.specs.Cert.{Entry, Node}
use Rattle.prov_layout.specs.Pieces.{is_of, is_plain, piece_at}
use Rattle.prov_runs.specs.Memory.{HasCode, Moved}
use Rattle.prov_runs.specs.States.{Related}
use Rattle.prov_runs.specs.StepLaws.{AtSomeNode}
use Rattle.provenance_check.specs.Ground.{Ground}
use Rattle.provenance_check.specs.Entries.{entry_rule}
use Rattle.provenance_check.specs.Reached.{MarksReached}
use Rattle.prov_laws.specs.Checked.{AreRunsOf, calls, regions_of, runs_of}

-- An argument: a number, or an address by its offset of the OS arguments.
pub data Argument : Type 0 where
  Value : (v : ℕ) → Argument
  Buffer : (o : ℕ) → Argument

-- what its register holds, where regions begin so
abbrev pub held : (start : ℕ → ℕ) → Argument → ℕ
held start (Value v) = v
held start (Buffer o) = start 2 + o

-- an offset in a span, at most the length of the OS arguments
abbrev pub IsOffset : Span → ℕ → Type 0
IsOffset s o = InSpan s o × (o ≤ 65536)

-- A number in its span; an offset; and 0 besides where the address may be 0.
abbrev pub IsOf : Kind → Argument → Type 0
IsOf (Num s) (Value v) = InSpan s v
IsOf (Ptr r s) (Buffer o) = IsOffset s o
IsOf (Opt r s) (Value v) = v ≡ 0
IsOf (Opt r s) (Buffer o) = IsOffset s o
IsOf _ _ = ⊥

-- by the numbers of registers, each argument that an entry names is of its kind
abbrev pub AreOf : List RegKind → (arguments : ℕ → Argument) → Type 0
AreOf named arguments = (i : ℕ) (k : RegKind) → slice_get named i ≡ Some k → IsOf k.kind (arguments k.reg)

-- Where a call begins, the program counter is at its node, ra at the OS return page, region 3, and sp at the end of the stack,
-- region 1; a register that is named holds its argument, and each other one 0.
pub record Begins (start : ℕ → ℕ) (at : ℕ) (named : List RegKind) (arguments : ℕ → Argument) (s : State) : Type 0 where
  pub pc : s.pc ≡ plus (start 0) at
  pub link : slice_index s.x 1 ≡ start 3
  pub stack : slice_index s.x 2 ≡ start 1 + 65536
  pub given : (i : ℕ) (k : RegKind) → slice_get named i ≡ Some k → slice_index s.x k.reg ≡ held start (arguments k.reg)
  pub others : (r : ℕ) → r ≢ 1 → r ≢ 2 → ((i : ℕ) (k : RegKind) → slice_get named i ≡ Some k → k.reg ≢ r) → slice_index s.x r ≡ 0

-- The OS window: the stack and the OS arguments are 16 pages each, the return page is one, and the OS arguments are plain.
pub record HasWindow (g : Ground) : Type 0 where
  pub stack : length_of g.lens 1 ≡ 65536
  pub arguments : length_of g.lens 2 ≡ 65536
  pub return_page : length_of g.lens 3 ≡ 4096
  pub plain : (o : ℕ) → o < 65536 → is_of is_plain (piece_at g.pieces 2 o) ≡ true

-- Two runs that begin a call of an entry whose rule passes, with the same arguments, stand at its node.
abbrev pub CallsBegin : Type 0
CallsBegin = (g : Ground) (old new : ℕ → ℕ) (allows others : Rights) (starts : List ℕ) (entry : Entry) (node : Node) (arguments : ℕ → Argument) (s t : State)
    → AreRunsOf g old new allows others → HasWindow g → MarksReached g.nodes starts g.called
    → Contains starts entry.node → slice_get g.nodes entry.node ≡ Some node → entry_rule g.nodes entry ≡ true → AreOf entry.arg_kinds arguments
    → Begins old node.at entry.arg_kinds arguments s → Begins new node.at entry.arg_kinds arguments t
    → Related (regions_of g old new) (record { pieces = g.pieces; sites = g.sites }) [] g.image s t
    → AtSomeNode (runs_of g old new [] allows others) (calls g) s t

-- memory with bytes written from an address on
unfoldable pub with_buffer : (ℕ → ℕ) → (at : ℕ) → List ℕ → ℕ → ℕ
with_buffer b at [] = b
with_buffer b at (v ∷ vs) = with_buffer (with_byte b at v) (next at) vs

-- What two memories share, and the code of the first, which was judged.
pub record Shared (g : Ground) (old new : ℕ → ℕ) (b c : ℕ → ℕ) : Type 0 where
  pub moved : Moved (regions_of g old new) (record { pieces = g.pieces; sites = g.sites }) [] b c
  pub code : HasCode (regions_of g old new) g.pieces g.image b

-- It stays so where both runs write a buffer at one offset of the OS arguments, inside them.
abbrev pub BuffersKeep : Type 0
BuffersKeep = (g : Ground) (old new : ℕ → ℕ) (allows others : Rights) (o : ℕ) (vs : List ℕ) (b c : ℕ → ℕ)
    → AreRunsOf g old new allows others → HasWindow g → o + length vs ≤ 65536 → ((i : ℕ) → slice_index vs i < 256)
    → Shared g old new b c → Shared g old new (with_buffer b (old 2 + o) vs) (with_buffer c (new 2 + o) vs)
