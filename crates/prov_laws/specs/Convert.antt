-- Convertible cells while a driver's addresses change: one run, at its old addresses, whose memory was `b` before.
use Rattle.std.specs.Prelude.{ℕ, ◌≡◌, ◌+◌, ◌<◌, ◌==◌, ◌||◌, nat_lt, Bool, true, false, List, [], ◌∷◌, Some, slice_get}
use Rattle.uh_base.specs.Bytes.{number_at, with_number}
use Rattle.rv_step.specs.Exec.{Rights}
use Rattle.prov_types.specs.declared.kinds.Kind.{Kind}
use Rattle.prov_types.specs.declared.kinds.Kind.TheVariants.{Ptr, Opt}
use Rattle.prov_types.specs.Kinds.{AreApart, Holds, Regions, length_of}
use Rattle.prov_layout.specs.declared.piece.Class.{Class}
use Rattle.prov_layout.specs.declared.piece.Class.TheVariants.{Number, Convert}
use Rattle.prov_layout.specs.declared.piece.Piece.{Piece}
use Rattle.prov_layout.specs.Pieces.{is_cell_among}
use Rattle.prov_layout.specs.Stores.{is_number}
use Rattle.prov_runs.specs.Bytes.{AreBytes}
use Rattle.prov_runs.specs.Memory.{HasCode, Layout, Moved}
use Rattle.provenance_check.specs.Ground.{Ground}
use Rattle.prov_laws.specs.Checked.{AreRunsOf, regions_of}

abbrev pub layout_of : Ground → Layout
layout_of g = record { pieces = g.pieces; sites = g.sites }

-- a piece's bytes are as they were
abbrev pub Stays : (start : ℕ → ℕ) → Piece → (b c : ℕ → ℕ) → Type 0
Stays start p b c = (i : ℕ) → i < p.len → c (start p.region + (p.at + i)) ≡ b (start p.region + (p.at + i))

-- A convertible cell that is converted holds the new value of what it held; all else is as it was.
abbrev pub ClassBetween : Regions → Piece → Class → (is_converted : Bool) → (b c : ℕ → ℕ) → Type 0
ClassBetween g p (Convert kind cell) true b c = Holds g kind (number_at b (g.old p.region + p.at) p.len) (number_at c (g.old p.region + p.at) p.len)
ClassBetween g p class is_converted b c = Stays g.old p b c

-- memory where just the cells `done` are converted
abbrev pub Between : Regions → List Piece → (done : List ℕ) → (b c : ℕ → ℕ) → Type 0
Between g pieces done b c = (i : ℕ) (p : Piece) → slice_get pieces i ≡ Some p → ClassBetween g p p.class (is_cell_among done p.class) b c

-- regions that lie in runtime descriptors: all but the stack, the OS arguments and the OS return page, 1 to 3
abbrev pub is_owned : ℕ → Bool
is_owned r = r == 0 || nat_lt 3 r

-- addresses below the end of such a region
abbrev pub IsBelow : List ℕ → Kind → Type 0
IsBelow lens (Ptr r s) = (s.hi < length_of lens r) × (is_owned r ≡ true)
IsBelow lens (Opt r s) = (s.hi < length_of lens r) × (is_owned r ≡ true)
IsBelow lens _ = ⊥

pub record IsCell (g : Ground) (p : Piece) (kind : Kind) (cell : ℕ) : Type 0 where
  pub long : p.len ≡ 8
  pub below : IsBelow g.lens kind
  pub counted : cell < g.cells

-- Data and the numbers of cells: each convertible cell holds 8 bytes of such a kind, and no two have one number.
pub record AreCells (g : Ground) : Type 0 where
  pub each : (i : ℕ) (p : Piece) (kind : Kind) (cell : ℕ) → slice_get g.pieces i ≡ Some p → p.class ≡ Convert kind cell → IsCell g p kind cell
  pub once : (i j : ℕ) (p q : Piece) (kind other : Kind) (cell : ℕ) → slice_get g.pieces i ≡ Some p → slice_get g.pieces j ≡ Some q
      → p.class ≡ Convert kind cell → q.class ≡ Convert other cell → i ≡ j

-- a number that is laid has a kind of numbers
abbrev pub AreNumbersLaid : List Piece → Type 0
AreNumbersLaid pieces = (i : ℕ) (p : Piece) (kind : Kind) → slice_get pieces i ≡ Some p → p.class ≡ Number kind → is_number kind ≡ true

-- ConvertPointer (UEFI 2.10, 8.4) gives an address of a region the new one, and leaves 0, which an optional pointer may be.
pub record Converts (g : Regions) (answer : ℕ → ℕ) : Type 0 where
  pub pointer : (r o : ℕ) → is_owned r ≡ true → o < length_of g.lens r → answer (g.old r + o) ≡ g.new r + o
  pub nought : answer 0 ≡ 0

-- A driver's addresses change: it was checked, and its memory was `b` before, which held what is laid over it.
pub record Changes (g : Ground) (old new : ℕ → ℕ) (allows : Rights) (answer : ℕ → ℕ) (b : ℕ → ℕ) : Type 0 where
  -- one run, taken twice
  pub run : AreRunsOf g old old allows allows
  pub apart : AreApart (regions_of g old new)
  pub cells : AreCells g
  pub numbers : AreNumbersLaid g.pieces
  -- region 5, the slot page
  pub slots : length_of g.lens 5 ≡ 4096
  pub answers : Converts (regions_of g old new) answer
  pub bytes : AreBytes b
  pub own : Moved (regions_of g old old) (layout_of g) [] b b
  pub code : HasCode (regions_of g old old) g.pieces g.image b

-- memory behind the conversion of a cell
abbrev pub with_converted : (answer : ℕ → ℕ) → (at : ℕ) → (ℕ → ℕ) → ℕ → ℕ
with_converted answer at c = with_number c at 8 (answer (number_at c at 8))

-- A cell that isn't converted yet is converted, and no other changes.
abbrev pub ConversionKeeps : Type 0
ConversionKeeps = (g : Ground) (old new : ℕ → ℕ) (allows : Rights) (answer : ℕ → ℕ) (b c : ℕ → ℕ) (done : List ℕ) (i : ℕ) (p : Piece) (kind : Kind) (cell : ℕ)
    → Changes g old new allows answer b → slice_get g.pieces i ≡ Some p → p.class ≡ Convert kind cell → is_cell_among done p.class ≡ false
    → Between (regions_of g old new) g.pieces done b c → Between (regions_of g old new) g.pieces (cell ∷ done) b (with_converted answer (old p.region + p.at) c)

-- memory that holds what is laid over it, but for cells `done`, with the code that was judged
pub record HoldsLaid (g : Ground) (old : ℕ → ℕ) (done : List ℕ) (c : ℕ → ℕ) : Type 0 where
  pub moved : Moved (regions_of g old old) (layout_of g) done c c
  pub code : HasCode (regions_of g old old) g.pieces g.image c

-- Where just some cells are converted, all else that is laid over memory holds.
abbrev pub BetweenHolds : Type 0
BetweenHolds = (g : Ground) (old new : ℕ → ℕ) (allows : Rights) (answer : ℕ → ℕ) (b c : ℕ → ℕ) (done : List ℕ)
    → Changes g old new allows answer b → Between (regions_of g old new) g.pieces done b c → HoldsLaid g old done c
