-- What the memories of two runs share, by what is laid over the regions.
use Rattle.std.specs.Prelude.{ℕ, ◌≡◌, ◌+◌, ◌<◌, ◌≤◌, Bool, true, false, List, [], Some, slice_get, slice_index}
use Rattle.uh_base.specs.Bytes.{number_at}
use Rattle.prov_types.specs.Kinds.{Regions, length_of}
use Rattle.prov_cert.specs.declared.cert.StackPart.{StackPart}
use Rattle.prov_layout.specs.declared.piece.Class.{Class}
use Rattle.prov_layout.specs.declared.piece.Class.TheVariants.{Code, Plain, Number, Fixed, Convert}
use Rattle.prov_layout.specs.declared.piece.Piece.{Piece}
use Rattle.prov_layout.specs.Pieces.{AreInside, AreOrdered, all_of, is_cell_among, is_code, is_of, piece_at}
use Rattle.prov_runs.specs.Bytes.{NumberHolds, SameByte}
use Rattle.prov_runs.specs.Sites.{WordMoves, is_sited, target_at}

-- What is laid over the regions: pieces, and the image's HIGH20 sites.
pub record Layout : Type 0 where
  pub pieces : List Piece
  pub sites : List Piece

-- pieces are in order and inside their regions, and none is laid over the stack, region 1
pub record IsLaid (g : Regions) (pieces : List Piece) : Type 0 where
  pub order : AreOrdered pieces
  pub inside : AreInside g.lens pieces
  pub off_stack : (i : ℕ) (p : Piece) → slice_get pieces i ≡ Some p → p.region ≡ 1 → ⊥

-- each byte of a piece is the same
abbrev pub SameBytes : Regions → Piece → (b c : ℕ → ℕ) → Type 0
SameBytes g p b c = (i : ℕ) → i < p.len → SameByte g p.region (p.at + i) b c

-- but for those in sites that name an offset
abbrev pub SameCode : Regions → List Piece → Piece → (b c : ℕ → ℕ) → Type 0
SameCode g sites p b c = (i : ℕ) → i < p.len → is_sited sites p.region (p.at + i) ≡ false → SameByte g p.region (p.at + i) b c

-- Code and plain bytes are the same; so are those of a number, which is of its kind; fixed and convertible cells hold values of
-- their kinds.
abbrev pub ClassHolds : Regions → List Piece → Piece → Class → (b c : ℕ → ℕ) → Type 0
ClassHolds g sites p Code b c = SameCode g sites p b c
ClassHolds g sites p Plain b c = SameBytes g p b c
ClassHolds g sites p (Number kind) b c = SameBytes g p b c × NumberHolds g p.region p.at p.len kind b c
ClassHolds g sites p (Fixed kind) b c = NumberHolds g p.region p.at p.len kind b c
ClassHolds g sites p (Convert kind cell) b c = NumberHolds g p.region p.at p.len kind b c

-- What two memories share: each piece holds what its class says, but for the convertible cells with the numbers `done`; and a HIGH20
-- site that lies in code and names an offset holds in each memory the upper part of that offset's address. Closed bytes and the
-- stack aren't compared.
pub record Moved (g : Regions) (laid : Layout) (done : List ℕ) (b c : ℕ → ℕ) : Type 0 where
  pub pieces : (i : ℕ) (p : Piece) → slice_get laid.pieces i ≡ Some p → is_cell_among done p.class ≡ false → ClassHolds g laid.sites p p.class b c
  pub sites : (o target : ℕ) → target_at laid.sites o ≡ Some target → all_of is_code (piece_at laid.pieces 0) o 4 ≡ true
      → WordMoves g target (number_at b (g.old 0 + o) 4) (number_at c (g.new 0 + o) 4)

-- the cells that aren't compared at a node: of a notified function those that are converted when it is reached, of a call none
abbrev pub converted : (notified : Bool) → (done : List ℕ) → List ℕ
converted true done = done
converted false done = []

-- the code of the image is as it was
abbrev pub HasCode : Regions → List Piece → (image : List ℕ) → (b : ℕ → ℕ) → Type 0
HasCode g pieces image b = (o : ℕ) → is_of is_code (piece_at pieces 0 o) ≡ true → b (g.old 0 + o) ≡ slice_index image o

-- a part of the stack, region 1, lies in it and holds a value of its kind
pub record PartHolds (g : Regions) (p : StackPart) (b c : ℕ → ℕ) : Type 0 where
  pub inside : p.at + p.width ≤ length_of g.lens 1
  pub holds : NumberHolds g 1 p.at p.width p.kind b c

abbrev pub PartsHold : Regions → List StackPart → (b c : ℕ → ℕ) → Type 0
PartsHold g parts b c = (i : ℕ) (p : StackPart) → slice_get parts i ≡ Some p → PartHolds g p b c
