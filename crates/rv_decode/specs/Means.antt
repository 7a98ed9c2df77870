-- What the halves of an instruction mean.
use Rattle.std.specs.Prelude.{ℕ, ◌≡◌, ◌<◌, Option, Some, None, List, [], ◌∷◌, if◌then◌else◌, IsTrue, slice_get}
use Rattle.rv_decode.specs.Rows.{Row, rows, holds_row, reads, word_of}
use Rattle.rv_decode.specs.declared.insn.Insn.{Insn}

-- The row at i holds of these halves, and reads as this instruction of so many bytes.
pub record MeansBy (i : ℕ) (row : Row) (half0 half1 : ℕ) (insn : Insn) (len : ℕ) : Type 0 where
  pub listed : slice_get rows i ≡ Some row
  pub holds : IsTrue (holds_row row (word_of half0 half1))
  pub fields : insn ≡ reads row (word_of half0 half1)
  pub length : len ≡ row.length

-- some row of the table says so
abbrev pub Means : ℕ → ℕ → Insn → ℕ → Type 0
Means half0 half1 insn len = (i : ℕ) × (row : Row) × MeansBy i row half0 half1 insn len

-- no two rows hold of the same halves
abbrev pub OneRowHolds : Type 0
OneRowHolds = (half0 half1 i j : ℕ) (a b : Row) → slice_get rows i ≡ Some a → slice_get rows j ≡ Some b
    → IsTrue (holds_row a (word_of half0 half1)) → IsTrue (holds_row b (word_of half0 half1)) → i ≡ j

-- the registers that an instruction names are among the 32
pub record NamesRegisters (insn : Insn) : Type 0 where
  pub rd : insn.rd < 32
  pub rs1 : insn.rs1 < 32
  pub rs2 : insn.rs2 < 32

-- the reading of the first row that holds, which is the only one
abbrev pub first : List Row → ℕ → Option (Insn × ℕ)
first [] word = None
first (row ∷ more) word = if holds_row row word then Some (reads row word, row.length) else first more word

-- the instruction of two halves, and how many bytes it has
unfoldable pub decoded : ℕ → ℕ → Option (Insn × ℕ)
decoded half0 half1 = first rows (word_of half0 half1)
