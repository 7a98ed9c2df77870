-- The instruction at an offset of the image, and the HIGH20 sites on it.
use Rattle.std.specs.Prelude.{ℕ, ◌+◌, ◌*◌, ◌%◌, ◌==◌, ◌&&◌, nat_le, Bool, true, false, List, Option, Some, None, if◌then◌else◌, slice_index, length, is_none}
use Rattle.rv_decode.specs.declared.insn.Insn.{Insn}
use Rattle.rv_decode.specs.declared.insn.Op.{Op}
use Rattle.rv_decode.specs.declared.insn.Op.TheVariants as ops
use Rattle.rv_decode.specs.Means.{decoded}
use Rattle.prov_types.specs.declared.kinds.Place.{Place}
use Rattle.prov_layout.specs.declared.piece.Piece.{Piece}
use Rattle.prov_layout.specs.Offsets.{every}
use Rattle.prov_layout.specs.Pieces.{all_of, is_code, piece_at}
use Rattle.provenance_check.specs.Ground.{Ground, target_in}

-- two bytes, the least first
abbrev pub half_at : List ℕ → ℕ → ℕ
half_at image o = slice_index image o + 256 * slice_index image (o + 1)

-- An instruction has 4 bytes where the low two bits of its first half are set, and else 2. (RISC-V unprivileged manual, version
-- 20191213, 1.5)
abbrev pub length_by : (half0 : ℕ) → ℕ
length_by half0 = if half0 % 4 == 3 then 4 else 2

abbrev pub decoded_by : List ℕ → ℕ → (half0 : ℕ) → Option (Insn × ℕ)
decoded_by image o half0 = decoded half0 (if half0 % 4 == 3 then half_at image (o + 2) else 0)

abbrev pub stops : Op → Bool
stops ops.Ecall = true
stops ops.Ebreak = true
stops _ = false

abbrev pub unless_it_stops : Option (Insn × ℕ) → Option (Insn × ℕ)
unless_it_stops None = None
unless_it_stops (Some (insn, len)) = if stops insn.op then None else Some (insn, len)

-- so many bytes of the image from an offset on are code
abbrev pub is_code_at : Ground → (o len : ℕ) → Bool
is_code_at g o len = nat_le (o + len) (length g.image) && all_of is_code (piece_at g.pieces 0) o len

-- the instruction at an offset and its length: none where its bytes aren't all code, where they are no instruction, or where it
-- is ECALL or EBREAK
unfoldable pub insn_at : Ground → ℕ → Option (Insn × ℕ)
insn_at g o =
    if is_code_at g o 2 && is_code_at g o (length_by (half_at g.image o)) then unless_it_stops (decoded_by g.image o (half_at g.image o)) else None

-- no HIGH20 site has one of so many bytes
abbrev pub is_clear : List Piece → (o len : ℕ) → Bool
is_clear sites o len = every (λ i. is_none (piece_at sites 0 i)) o 1 len

-- the offset of the image that a HIGH20 site of just the 4 bytes from an offset on names
abbrev pub target_of : Option Piece → ℕ → Option ℕ
target_of None o = None
target_of (Some p) o = if p.at == o && p.len == 4 then target_in p.class else None

abbrev pub target_at : List Piece → ℕ → Option ℕ
target_at sites o = target_of (piece_at sites 0 o) o

abbrev pub place_of : Ground → ℕ → ℕ → Place
place_of g o len = record { at = o; len = len; target = target_at g.sites o }

abbrev pub is_at_most : ℕ → Option ℕ → Bool
is_at_most most None = false
is_at_most most (Some n) = nat_le n most

abbrev pub is_lui : Op → Bool
is_lui ops.Lui = true
is_lui _ = false
