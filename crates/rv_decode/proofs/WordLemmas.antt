-- What the word of an instruction means.
use Rattle.std.proofs.Common.{◌≡◌, ℕ, ℤ, ◌<◌, Some, refl, arith}
use Rattle.std.specs.Prelude.{slice_get}
use Rattle.rv_decode.specs.Encoded.{encoded}
use Rattle.rv_decode.specs.Names.{place_of}
use Rattle.rv_decode.specs.Packed.{packed}
use Rattle.rv_decode.specs.Rows.{rows}
use Rattle.rv_decode.specs.WordLaws.{WordsDecode, WordsFit}
use Rattle.rv_decode.specs.declared.insn.Op.{Op}
use Rattle.rv_decode.specs.declared.insn.Op.TheVariants as ops
use Rattle.rv_decode.specs.declared.table.Row as code
use Rattle.rv_decode.specs.declared.table.TheConstants.{ROWS}
use Rattle.rv_decode.proofs.EncodeLemmas.{encodes, is_encoded}

-- a name's row in the code
row_of_op : (op : Op) → (r : code.Row) × (slice_get ROWS (place_of op) ≡ Some r)
row_of_op ops.Lui = (_, refl)
row_of_op op = (_, refl)

pub words_decode : WordsDecode
words_decode insn h =
    let row = row_of_op insn.op in
    let word = packed row.0.format row.0.value insn in
    rw (is_encoded insn row.0 word row.1 refl) at (encodes insn row.0 word row.1 refl h)

word_fits : (op : Op) (rd rs1 rs2 : ℕ) (imm : ℤ) → encoded (record { op = op; rd = rd; rs1 = rs1; rs2 = rs2; imm = imm }) < 4294967296
unfolding encoded rows
word_fits ops.Lui rd rs1 rs2 imm = omega arith
word_fits op rd rs1 rs2 imm = omega arith

pub words_fit : WordsFit
words_fit insn = word_fits insn.op insn.rd insn.rs1 insn.rs2 insn.imm
