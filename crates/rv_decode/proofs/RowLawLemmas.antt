-- What the rows' readings have in common.
use Rattle.std.proofs.Common.{◌≡◌, ℕ, zero, suc, ◌-◌, ◌/◌, ◌%◌, ◌^◌, arith, Bool, true, false, refl, sym, ◌∙◌, ap, subst, Some, List, [], ◌∷◌, bit_and}
use Rattle.std.specs.Prelude.{◌==◌, ◌&&◌, ◌≢◌, if◌then◌else◌, slice_get}
use Rattle.std.proofs.lemmas.Nat.{and_mask, and_assoc}
use Rattle.std.proofs.lemmas.Bool.{eqb-true, eq-eqb}
use Rattle.rv_decode.specs.Fields.{field}
use Rattle.rv_decode.specs.Immediates.{imm_u}
use Rattle.rv_decode.specs.Names.{place_of}
use Rattle.rv_decode.specs.Rows.{Pattern, Row, rows, reads, holds, holds_row, word_of}
use Rattle.rv_decode.specs.Means.{decoded, Means, MeansBy}
use Rattle.rv_decode.specs.RowLaws.{HasLength, LengthIs, LuiFieldIsImmediate, OneRowOfName, ReadsKeepOp, RowOfName}
use Rattle.rv_decode.specs.declared.insn.Insn.{Insn}
use Rattle.rv_decode.specs.declared.insn.Op.TheVariants as ops
use Rattle.rv_decode.proofs.RowLemmas.{and_split, decoded_means, means_decoded}
use Rattle.rv_decode.proofs.EncodeLemmas.{op_of, placed_at, placed_parts, are-placed}

pub reads_keep_op : ReadsKeepOp
reads_keep_op row word = op_of row.format row.op word

-- each name's row
pub row_of_name : RowOfName
unfolding rows
row_of_name ops.Lui = (_, record { listed = refl; named = refl; long = refl })
row_of_name op = (_, record { listed = refl; named = refl; long = refl })

pub one_row_of_name : OneRowOfName
one_row_of_name i row g h = sym ((placed_parts i row (placed_at 0 i i rows row (omega arith) are-placed g) h).0)

-- the low two bits of a row's pattern say how long it is
abbrev is_of_length : Row → Bool
is_of_length row = row.is.mask % 4 == 3 && (if row.is.value % 4 == 3 then row.length == 4 else row.length == 2)

abbrev all_of_length : List Row → Bool
all_of_length [] = true
all_of_length (row ∷ more) = is_of_length row && all_of_length more

rows-of-length : all_of_length rows ≡ true
unfolding rows
rows-of-length = refl

of_length_at : (rs : List Row) (i : ℕ) (row : Row) → all_of_length rs ≡ true → slice_get rs i ≡ Some row → is_of_length row ≡ true
of_length_at [] i row h k = absurd cc
of_length_at (r ∷ rs) zero row h k =
    let same : r ≡ row = cc in ap is_of_length (sym same) ∙ (and_split (is_of_length r) _ h).0
of_length_at (r ∷ rs) (suc i) row h k = of_length_at rs i row (and_split (is_of_length r) _ h).1 k

-- the low two bits of a word that has a pattern
low_bits : (p : Pattern) (word : ℕ) → p.mask % 4 ≡ 3 → holds p word ≡ true → word % 4 ≡ p.value % 4
low_bits p word h k =
    let e : bit_and word p.mask ≡ p.value = eqb-true _ _ k in
    let m : bit_and p.mask (2 ^ 2 - 1) ≡ 3 = and_mask p.mask 2 ∙ h in
    sym (and_mask word 2) ∙ ap (bit_and word) (sym m) ∙ sym (and_assoc (2 ^ 2 - 1) word p.mask) ∙ and_mask (bit_and word p.mask) 2 ∙ ap (λ n. n % 4) e

by_low_bits : (low value len : ℕ) → low ≡ value → (if value == 3 then len == 4 else len == 2) ≡ true → (low ≡ 3 → len ≡ 4) × (low ≢ 3 → len ≡ 2)
by_low_bits low value len e h = chosen (value == 3) refl h
  where
    chosen : (c : Bool) → (value == 3) ≡ c → (if c then len == 4 else len == 2) ≡ true → (low ≡ 3 → len ≡ 4) × (low ≢ 3 → len ≡ 2)
    chosen true t k = let v : value ≡ 3 = eqb-true _ _ t in let four : len ≡ 4 = eqb-true _ _ k in ((λ z. four), (λ z. absurd (z (e ∙ v))))
    chosen false t k = let two : len ≡ 2 = eqb-true _ _ k in ((λ z. let v : (value == 3) ≡ true = eq-eqb _ _ (sym e ∙ z) in absurd cc), (λ z. two))

from_both : (half0 len : ℕ) → (half0 % 4 ≡ 3 → len ≡ 4) × (half0 % 4 ≢ 3 → len ≡ 2) → HasLength half0 len
from_both half0 len h = record { four = (h.0, four); two = (h.1, two) }
  where
    four : len ≡ 4 → half0 % 4 ≡ 3
    four e = decide (half0 % 4 == 3) refl
      where
        decide : (c : Bool) → (half0 % 4 == 3) ≡ c → half0 % 4 ≡ 3
        decide true t = eqb-true _ _ t
        decide false t = let z = h.1 (λ k. let v : (half0 % 4 == 3) ≡ true = eq-eqb _ _ k in cc) in absurd (omega (arith, e, z))

    two : len ≡ 2 → half0 % 4 ≢ 3
    two e k = let z = h.0 k in omega (arith, e, z)

pub length_is : LengthIs
length_is half0 half1 insn len h =
    let m = decoded_means half0 half1 insn len h in
    let row = m.1 in
    let means = m.2 in
    let parts = and_split (row.is.mask % 4 == 3) _ (of_length_at rows m.0 row rows-of-length means.listed) in
    let has = (and_split (holds row.is (word_of half0 half1)) _ means.holds).0 in
    let low : word_of half0 half1 % 4 ≡ half0 % 4 = omega arith in
    let bits : half0 % 4 ≡ row.is.value % 4 = sym low ∙ low_bits row.is (word_of half0 half1) (eqb-true _ _ parts.0) has in
    subst (λ n. HasLength half0 n) (sym means.length) (from_both half0 row.length (by_low_bits (half0 % 4) (row.is.value % 4) row.length bits parts.1))

inner : {x y : Row} → Some x ≡ Some y → x ≡ y
inner h = cc

word_is : (w : ℕ) → word_of (w % 2 ^ 16) (w / 2 ^ 16) ≡ w
word_is w = omega arith

-- the instruction of a word of LUI
abbrev lui : ℕ → Insn
lui w = record { op = ops.Lui; rd = field w 7 5; rs1 = 0; rs2 = 0; imm = imm_u w }

-- what the first row, that of LUI, reads
record IsLui (w : ℕ) (insn : Insn) : Type 0 where
  low : w % 2 ^ 7 ≡ 0x37
  fields : insn ≡ lui w

read_first : (w : ℕ) (insn : Insn) (row : Row) (len : ℕ) → MeansBy 0 row (w % 2 ^ 16) (w / 2 ^ 16) insn len → IsLui w insn
unfolding rows
read_first w insn row len m =
    let word = word_of (w % 2 ^ 16) (w / 2 ^ 16) in
    let same = inner m.listed in
    let holds : (bit_and word (2 ^ 7 - 1) == 0x37 && true) ≡ true = subst (λ r. holds_row r word ≡ true) (sym same) m.holds in
    let low : word % 2 ^ 7 ≡ 0x37 = sym (and_mask word 7) ∙ eqb-true _ _ (and_split (bit_and word (2 ^ 7 - 1) == 0x37) true holds).0 in
    let fields : insn ≡ lui word = subst (λ r. insn ≡ reads r word) (sym same) m.fields in
    record { low = subst (λ n. n % 2 ^ 7 ≡ 0x37) (word_is w) low; fields = subst (λ n. insn ≡ lui n) (word_is w) fields }

is_lui : (w : ℕ) (insn : Insn) → decoded (w % 2 ^ 16) (w / 2 ^ 16) ≡ Some (insn, 4) → insn.op ≡ ops.Lui → IsLui w insn
is_lui w insn h name =
    let m = decoded_means (w % 2 ^ 16) (w / 2 ^ 16) insn 4 h in
    let row = m.1 in
    let means = m.2 in
    let op : row.op ≡ ops.Lui = sym (reads_keep_op row (word_of (w % 2 ^ 16) (w / 2 ^ 16))) ∙ sym (ap (λ (x : Insn). x.op) means.fields) ∙ name in
    let place : m.0 ≡ 0 = one_row_of_name m.0 row means.listed (sym means.length) ∙ ap place_of op in
    read_first w insn row 4 (subst (λ i. MeansBy i row (w % 2 ^ 16) (w / 2 ^ 16) insn 4) place means)

reads_lui : (w : ℕ) → w % 2 ^ 7 ≡ 0x37 → decoded (w % 2 ^ 16) (w / 2 ^ 16) ≡ Some (lui w, 4)
unfolding rows
reads_lui w h =
    let word = word_of (w % 2 ^ 16) (w / 2 ^ 16) in
    let bits : bit_and word (2 ^ 7 - 1) ≡ 0x37 = and_mask word 7 ∙ ap (λ n. n % 2 ^ 7) (word_is w) ∙ h in
    let is : (bit_and word (2 ^ 7 - 1) == 0x37) ≡ true = eq-eqb _ _ bits in
    let means : Means (w % 2 ^ 16) (w / 2 ^ 16) (lui word) 4 = (0, _, record { listed = refl; holds = rw is refl; fields = refl; length = refl }) in
    subst (λ n. decoded (w % 2 ^ 16) (w / 2 ^ 16) ≡ Some (lui n, 4)) (word_is w) (means_decoded (w % 2 ^ 16) (w / 2 ^ 16) (lui word) 4 means)

pub lui_field : LuiFieldIsImmediate
lui_field word other insn h name same =
    let is = is_lui word insn h name in
    let opcode = is.low in
    let low : other % 2 ^ 7 ≡ 0x37 = omega (arith, opcode, same) in
    let rd : field other 7 5 ≡ field word 7 5 = omega (arith, same) in
    let fields : lui other ≡ record insn { imm = imm_u other } =
    ap (λ n. record { op = ops.Lui; rd = n; rs1 = 0; rs2 = 0; imm = imm_u other }) rd ∙ sym (ap (λ (x : Insn). record x { imm = imm_u other }) is.fields) in
    reads_lui other low ∙ ap (λ (x : Insn). Some (x, 4)) fields
