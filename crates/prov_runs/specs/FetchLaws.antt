-- The laws of instructions that two runs fetch.
use Rattle.std.specs.Prelude.{ℕ, ◌≡◌, ◌+◌, ◌*◌, ◌%◌, ◌<◌, ◌≤◌, ◌==◌, true, List, Option, Some, None, Result, Ok, if◌then◌else◌, slice_index, FitsSigned}
use Rattle.std.specs.Int.{w64}
use Rattle.rv_decode.specs.declared.insn.Insn.{Insn}
use Rattle.rv_decode.specs.declared.insn.Op.TheVariants as ops
use Rattle.rv_decode.specs.Means.{NamesRegisters, decoded}
use Rattle.rv_step.specs.declared.bus.Access.TheVariants as access
use Rattle.rv_step.specs.declared.ends.Trap.{Trap}
use Rattle.rv_step.specs.Exec.{Rights, State, fetched}
use Rattle.uh_base.specs.Bytes.{plus}
use Rattle.prov_types.specs.Kinds.{AreApart, Regions, length_of}
use Rattle.prov_types.specs.Asked.{SiteHolds}
use Rattle.prov_layout.specs.declared.piece.Piece.{Piece}
use Rattle.prov_layout.specs.Pieces.{all_of, is_code, is_of, piece_at}
use Rattle.prov_runs.specs.Memory.{IsLaid, Layout}
use Rattle.prov_runs.specs.Sites.{target_at}
use Rattle.prov_runs.specs.States.{Related}

-- An instruction that halves are decoded to names registers among the 32, and its immediate has 64 bits.
pub record InsnFits (insn : Insn) : Type 0 where
  pub names : NamesRegisters insn
  pub imm : FitsSigned w64 insn.imm

abbrev pub DecodedFits : Type 0
DecodedFits = (half0 half1 : ℕ) (insn : Insn) (len : ℕ) → decoded half0 half1 ≡ Some (insn, len) → InsnFits insn

-- two bytes of the image, the least first
abbrev pub half_at : List ℕ → ℕ → ℕ
half_at image o = slice_index image o + 256 * slice_index image (o + 1)

-- The instruction at an offset of the image; a second half is read where the low two bits of the first are set. (RISC-V
-- unprivileged manual, version 20191213, 1.5)
abbrev pub decoded_at : List ℕ → ℕ → Option (Insn × ℕ)
decoded_at image o = decoded (half_at image o) (if half_at image o % 4 == 3 then half_at image (o + 2) else 0)

-- No HIGH20 site has a byte of an instruction, or the instruction is a LUI of just a site's 4 bytes, and the site names an offset.
pub data SiteAllows (sites : List Piece) (at len : ℕ) (insn : Insn) : Type 0 where
  clear : ((i : ℕ) → i < len → piece_at sites 0 (at + i) ≡ None) → SiteAllows sites at len insn
  sited : insn.op ≡ ops.Lui → len ≡ 4 → (target : ℕ) → target_at sites at ≡ Some target → SiteAllows sites at len insn

-- the instruction at an offset of the image that was judged, all of whose bytes are code
pub record IsInsnAt (laid : Layout) (image : List ℕ) (at len : ℕ) (insn : Insn) : Type 0 where
  pub means : decoded_at image at ≡ Some (insn, len)
  pub code : all_of is_code (piece_at laid.pieces 0) at len ≡ true
  pub site : SiteAllows laid.sites at len insn

-- in both runs each byte of the image's code may be fetched
pub record MayFetch (g : Regions) (pieces : List Piece) (allows others : Rights) : Type 0 where
  pub old : (o : ℕ) → is_of is_code (piece_at pieces 0 o) ≡ true → allows access.Fetch (g.old 0 + o) ≡ true
  pub new : (o : ℕ) → is_of is_code (piece_at pieces 0 o) ≡ true → others access.Fetch (g.new 0 + o) ≡ true

-- Both runs fetch one instruction, but for the immediate of a LUI under a HIGH20 site, and it lies in the image.
pub record OneFetched (g : Regions) (target : Option ℕ) (at len : ℕ) (insn : Insn) (x y : Result (Insn × ℕ) Trap) : Type 0 where
  pub other : Insn
  pub first : x ≡ Ok (insn, len)
  pub second : y ≡ Ok (other, len)
  pub site : SiteHolds g target insn other
  pub inside : at + len ≤ length_of g.lens 0
  pub fits : InsnFits insn

-- Two runs that stand at one offset of the image fetch there the instruction that was judged.
abbrev pub FetchesAlike : Type 0
FetchesAlike = (g : Regions) (laid : Layout) (done image : List ℕ) (at len : ℕ) (insn : Insn) (allows others : Rights) (s t : State)
    → AreApart g → IsLaid g laid.pieces → MayFetch g laid.pieces allows others → IsInsnAt laid image at len insn → Related g laid done image s t
    → s.pc ≡ plus (g.old 0) at → t.pc ≡ plus (g.new 0) at
    → OneFetched g (target_at laid.sites at) at len insn (fetched s.bytes allows s.pc) (fetched t.bytes others t.pc)
