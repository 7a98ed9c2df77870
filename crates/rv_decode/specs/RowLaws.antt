-- What the rows' readings have in common. (RISC-V unprivileged manual, version 20191213, 1.5 and 2.4)
use Rattle.std.specs.Prelude.{ℕ, ◌≡◌, ◌≢◌, ◌↔◌, ◌/◌, ◌%◌, ◌^◌, Some, slice_get}
use Rattle.rv_decode.specs.Immediates.{imm_u}
use Rattle.rv_decode.specs.Means.{decoded}
use Rattle.rv_decode.specs.Names.{place_of}
use Rattle.rv_decode.specs.Rows.{Row, rows, reads}
use Rattle.rv_decode.specs.declared.insn.Insn.{Insn}
use Rattle.rv_decode.specs.declared.insn.Op.{Op}
use Rattle.rv_decode.specs.declared.insn.Op.TheVariants as ops

-- a reading has its row's name
abbrev pub ReadsKeepOp : Type 0
ReadsKeepOp = (row : Row) (word : ℕ) → (reads row word).op ≡ row.op

-- a name's row of 32 bits
pub record IsRowOf (op : Op) (row : Row) : Type 0 where
  pub listed : slice_get rows (place_of op) ≡ Some row
  pub named : row.op ≡ op
  pub long : row.length ≡ 4

-- each name has a row of 32 bits
abbrev pub RowOfName : Type 0
RowOfName = (op : Op) → (row : Row) × IsRowOf op row

-- no other row of 32 bits has that name
abbrev pub OneRowOfName : Type 0
OneRowOfName = (i : ℕ) (row : Row) → slice_get rows i ≡ Some row → row.length ≡ 4 → i ≡ place_of row.op

-- the first half says how long the instruction is
pub record HasLength (half0 len : ℕ) : Type 0 where
  pub four : half0 % 4 ≡ 3 ↔ len ≡ 4
  pub two : half0 % 4 ≢ 3 ↔ len ≡ 2

-- The length is 4 exactly where the low two bits of the first half are 11, and else 2. (1.5)
abbrev pub LengthIs : Type 0
LengthIs = (half0 half1 : ℕ) (insn : Insn) (len : ℕ) → decoded half0 half1 ≡ Some (insn, len) → HasLength half0 len

-- Where a word is read as LUI, each word with the same bits 11 to 0 is read as LUI of the same register, and its immediate
-- is that of its own bits 31 to 12. (2.4)
abbrev pub LuiFieldIsImmediate : Type 0
LuiFieldIsImmediate = (word other : ℕ) (insn : Insn) → decoded (word % 2 ^ 16) (word / 2 ^ 16) ≡ Some (insn, 4) → insn.op ≡ ops.Lui
    → other % 2 ^ 12 ≡ word % 2 ^ 12 → decoded (other % 2 ^ 16) (other / 2 ^ 16) ≡ Some (record insn { imm = imm_u other }, 4)
