-- HIGH20 sites of the image (PE/COFF, "Base Relocation Types", IMAGE_REL_BASED_RISCV_HIGH20): pieces of 4 bytes of region 0. A fixed
-- one holds the upper part of the address of an offset of the image; one of another class has another word than was loaded there,
-- and stays.
use Rattle.std.specs.Prelude.{ℕ, ◌≡◌, ◌+◌, ◌%◌, ◌^◌, ◌==◌, ◌&&◌, Bool, false, List, Option, Some, None, if◌then◌else◌, is_some}
use Rattle.rv_decode.specs.Immediates.{imm_u}
use Rattle.rv_step.specs.Values.{bits_of}
use Rattle.prov_types.specs.declared.kinds.Kind.TheVariants.{Ptr}
use Rattle.prov_types.specs.Kinds.{Regions}
use Rattle.prov_layout.specs.declared.piece.Class.{Class}
use Rattle.prov_layout.specs.declared.piece.Class.TheVariants.{Fixed}
use Rattle.prov_layout.specs.declared.piece.Piece.{Piece}
use Rattle.prov_layout.specs.Pieces.{piece_at}

-- the offset that a site of a class names
abbrev pub target_in : Class → Option ℕ
target_in (Fixed (Ptr r s)) = Some s.lo
target_in _ = Option.None

-- the offset that a site of just the 4 bytes from an offset on names
abbrev pub target_of : Option Piece → ℕ → Option ℕ
target_of None o = None
target_of (Some p) o = if p.at == o && p.len == 4 then target_in p.class else None

abbrev pub target_at : List Piece → ℕ → Option ℕ
target_at sites o = target_of (piece_at sites 0 o) o

abbrev pub names_offset : Option Piece → Bool
names_offset None = false
names_offset (Some p) = is_some (target_in p.class)

-- a byte of a region is in a site that names an offset
abbrev pub is_sited : List Piece → (r o : ℕ) → Bool
is_sited sites r o = r == 0 && names_offset (piece_at sites 0 o)

-- Two words whose bits 31 to 12 are, with their sign, the address of one offset of the image where it lies in either run, and whose
-- other bits are the same. (RISC-V unprivileged manual, version 20191213, 2.3)
pub record WordMoves (g : Regions) (target w u : ℕ) : Type 0 where
  pub old_names : bits_of (imm_u w) ≡ g.old 0 + target
  pub new_names : bits_of (imm_u u) ≡ g.new 0 + target
  pub rest : u % 2 ^ 12 ≡ w % 2 ^ 12
