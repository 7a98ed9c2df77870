-- What a certificate is judged over, as plain data.
use Rattle.std.specs.Prelude.{ℕ, suc, Bool, ◌≡◌, ◌+◌, ◌<◌, ◌^◌, List, Option, Some, slice_get, slice_index}
use Rattle.prov_types.specs.declared.kinds.Kind.TheVariants.{Ptr}
use Rattle.prov_layout.specs.Pieces.{IsBefore, IsProperClass}
use Rattle.prov_types.specs.Kinds.{IsProperKind, length_of}
use Rattle.prov_cert.specs.declared.cert.RegKind.{RegKind}
use Rattle.prov_cert.specs.declared.cert.StackPart.{StackPart}
use Rattle.prov_cert.specs.Cert.{Node}
use Rattle.prov_layout.specs.declared.piece.Class.{Class}
use Rattle.prov_layout.specs.declared.piece.Class.TheVariants.{Fixed}
use Rattle.prov_layout.specs.declared.piece.Piece.{Piece}

pub record Ground : Type 0 where
  -- where each region begins and how long it is, by its number
  pub starts : List ℕ
  pub lens : List ℕ
  -- the bytes of region 0, the image
  pub image : List ℕ
  -- The HIGH20 sites of the image (PE/COFF, "Base Relocation Types"), pieces of 4 bytes of region 0: fixed ones hold the upper
  -- part of the address of an offset of the image; those of another class hold another word than the one that was loaded.
  pub sites : List Piece
  -- what is laid over the regions
  pub pieces : List Piece
  pub nodes : List Node
  -- which nodes are reached from an entry, from a notified function, and from the last one of these
  pub called : List Bool
  pub notified : List Bool
  pub last : List Bool
  -- how many convertible cells there are
  pub cells : ℕ

-- the offset that a HIGH20 site of a class names
abbrev pub target_in : Class → Option ℕ
target_in (Fixed (Ptr r s)) = Some s.lo
target_in _ = Option.None

-- registers that there are, whose kinds are proper
abbrev pub AreRegisters : List RegKind → Type 0
AreRegisters regs = (i : ℕ) (k : RegKind) → slice_get regs i ≡ Some k → (k.reg < 32) × IsProperKind k.kind

abbrev pub AreParts : List StackPart → Type 0
AreParts parts = (i : ℕ) (p : StackPart) → slice_get parts i ≡ Some p → IsProperKind p.kind

pub record IsFormed (node : Node) : Type 0 where
  pub registers : AreRegisters node.regs
  pub parts : AreParts node.stack

abbrev pub AreFormed : List Node → Type 0
AreFormed nodes = (i : ℕ) (n : Node) → slice_get nodes i ≡ Some n → IsFormed n

-- each region ends below 2^64
abbrev pub End : List ℕ → List ℕ → Type 0
End starts lens = (r : ℕ) → slice_index starts r + length_of lens r < 2 ^ 64

-- the piece at an index has a proper kind
abbrev pub ProperAt : List Piece → ℕ → Type 0
ProperAt pieces i = (p : Piece) → slice_get pieces i ≡ Some p → IsProperClass p.class

-- the piece before it ends where it begins, or before
abbrev pub BehindAt : List Piece → ℕ → Type 0
BehindAt pieces i = (k : ℕ) (p q : Piece) → suc k ≡ i → slice_get pieces k ≡ Some p → slice_get pieces i ≡ Some q → IsBefore p q
