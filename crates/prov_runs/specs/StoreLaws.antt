-- The laws of stores in two runs.
use Rattle.std.specs.Prelude.{ℕ, ◌≡◌, ◌≢◌, ◌+◌, ◌<◌, ◌≤◌, ◌^◌, Bool, true, false, List}
use Rattle.uh_base.specs.Bytes.{with_number}
use Rattle.prov_types.specs.declared.kinds.Kind.{Kind}
use Rattle.prov_types.specs.Kinds.{AreApart, Holds, Regions, length_of}
use Rattle.prov_cert.specs.declared.cert.StackPart.{StackPart}
use Rattle.prov_layout.specs.declared.piece.Class.{Class}
use Rattle.prov_layout.specs.declared.piece.Class.TheVariants.{Plain, Number, Convert}
use Rattle.prov_layout.specs.Pieces.{is_of, piece_at}
use Rattle.prov_layout.specs.Stores.{store_keeps}
use Rattle.prov_layout.specs.Stack.{with_part}
use Rattle.prov_layout.specs.declared.piece.Piece.{Piece}
use Rattle.prov_runs.specs.Bytes.{AreDisjoint}
use Rattle.prov_runs.specs.Memory.{HasCode, IsLaid, Layout, Moved, PartsHold}

-- Both runs store values of a kind, v and w, in so many bytes at one offset of a region, inside it.
pub record BothStore (g : Regions) (pieces : List Piece) (r o width : ℕ) (kind : Kind) (v w : ℕ) : Type 0 where
  pub apart : AreApart g
  pub disjoint : AreDisjoint g
  pub is_laid : IsLaid g pieces
  pub some : 0 < width
  pub most : width ≤ 8
  pub inside : o + width ≤ length_of g.lens r
  pub value : Holds g kind v w
  pub first : v < 2 ^ 64
  pub second : w < 2 ^ 64

-- memory behind a store of so many bytes at an offset of a region
abbrev pub stored : (start : ℕ → ℕ) → (r o width v : ℕ) → (b : ℕ → ℕ) → ℕ → ℕ
stored start r o width v b = with_number b (start r + o) width v

-- bytes that a store outside the stack may change
abbrev pub is_stored_to : Class → Bool
is_stored_to Plain = true
is_stored_to (Number kind) = true
is_stored_to (Convert kind cell) = true
is_stored_to _ = false

-- A store outside the stack that keeps what is there keeps what two memories share.
abbrev pub StoresKeep : Type 0
StoresKeep = (g : Regions) (laid : Layout) (done : List ℕ) (b c : ℕ → ℕ) (r o width : ℕ) (kind : Kind) (v w : ℕ)
    → BothStore g laid.pieces r o width kind v w → store_keeps (piece_at laid.pieces r) o width kind ≡ true
    → Moved g laid done b c → Moved g laid done (stored g.old r o width v b) (stored g.new r o width w c)

-- It changes bytes of plain pieces, numbers and convertible cells alone, in either run: no code, no fixed cell and no closed byte.
abbrev pub OthersStay : Type 0
OthersStay = (g : Regions) (pieces : List Piece) (b c : ℕ → ℕ) (r o width : ℕ) (kind : Kind) (v w q x : ℕ)
    → BothStore g pieces r o width kind v w → store_keeps (piece_at pieces r) o width kind ≡ true
    → x < length_of g.lens q → is_of is_stored_to (piece_at pieces q x) ≡ false
    → (stored g.old r o width v b (g.old q + x) ≡ b (g.old q + x)) × (stored g.new r o width w c (g.new q + x) ≡ c (g.new q + x))

-- So the code stays that was judged,
abbrev pub CodeStays : Type 0
CodeStays = (g : Regions) (pieces : List Piece) (image : List ℕ) (b : ℕ → ℕ) (r o width : ℕ) (kind : Kind) (v w : ℕ)
    → BothStore g pieces r o width kind v w → store_keeps (piece_at pieces r) o width kind ≡ true
    → HasCode g pieces image b → HasCode g pieces image (stored g.old r o width v b)

-- and so do the parts of the stack.
abbrev pub PartsStay : Type 0
PartsStay = (g : Regions) (pieces : List Piece) (parts : List StackPart) (b c : ℕ → ℕ) (r o width : ℕ) (kind : Kind) (v w : ℕ)
    → BothStore g pieces r o width kind v w → store_keeps (piece_at pieces r) o width kind ≡ true
    → PartsHold g parts b c → PartsHold g parts (stored g.old r o width v b) (stored g.new r o width w c)

-- A store to the stack keeps all that is laid, and the code;
abbrev pub StackKeeps : Type 0
StackKeeps = (g : Regions) (laid : Layout) (done : List ℕ) (b c : ℕ → ℕ) (o width : ℕ) (kind : Kind) (v w : ℕ) → BothStore g laid.pieces 1 o width kind v w
    → Moved g laid done b c → Moved g laid done (stored g.old 1 o width v b) (stored g.new 1 o width w c)

abbrev pub StackKeepsCode : Type 0
StackKeepsCode = (g : Regions) (pieces : List Piece) (image : List ℕ) (b : ℕ → ℕ) (o width : ℕ) (kind : Kind) (v w : ℕ) → BothStore g pieces 1 o width kind v w
    → HasCode g pieces image b → HasCode g pieces image (stored g.old 1 o width v b)

-- it leaves a part of what is stored, and the parts that it doesn't meet.
abbrev pub StackLeaves : Type 0
StackLeaves = (g : Regions) (pieces : List Piece) (parts : List StackPart) (b c : ℕ → ℕ) (o width : ℕ) (kind : Kind) (v w : ℕ) → BothStore g pieces 1 o width kind v w
    → PartsHold g parts b c → PartsHold g (with_part o width kind parts) (stored g.old 1 o width v b) (stored g.new 1 o width w c)

-- A store changes no byte of another region, in either run.
abbrev pub RegionsStay : Type 0
RegionsStay = (g : Regions) (pieces : List Piece) (b c : ℕ → ℕ) (r o width : ℕ) (kind : Kind) (v w q x : ℕ) → BothStore g pieces r o width kind v w
    → x < length_of g.lens q → q ≢ r
    → (stored g.old r o width v b (g.old q + x) ≡ b (g.old q + x)) × (stored g.new r o width w c (g.new q + x) ≡ c (g.new q + x))
