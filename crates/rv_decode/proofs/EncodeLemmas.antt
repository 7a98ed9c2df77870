-- The word of an instruction means it, and what a word of 32 bits means fits.
use Rattle.std.proofs.Common.{◌≡◌, ℕ, zero, suc, pos, ◌+◌, ◌*◌, ◌/◌, ◌%◌, ◌^◌, ◌<◌, Bool, true, false, ◌&&◌, List, [], ◌∷◌, Option, Some, None, refl, sym, ◌∙◌, ap, arith, bit_and, map}
use Rattle.std.specs.Prelude.{◌==◌, slice_get, if◌then◌else◌}
use Rattle.std.proofs.lemmas.Bool.{eqb-true, eq-eqb}
use Rattle.std.proofs.lemmas.Bool.Decides.{nat_tests}
use Rattle.std.proofs.lemmas.Int.{ints}
use Rattle.rv_decode.specs.Rows.{Row, Pattern, rows, holds_none, holds_row, word_of}
use Rattle.rv_decode.specs.Fields.{signed}
use Rattle.rv_decode.specs.Formats.{reads_of}
use Rattle.rv_decode.specs.Means.{decoded, NamesRegisters}
use Rattle.rv_decode.specs.Names.{place_of, format_of, format_in}
use Rattle.rv_decode.specs.Fits.{fits, in_range, is_register, is_signed, is_shift, is_multiple, HasWord, FitsExactly}
use Rattle.rv_decode.specs.Views.{row_of}
use Rattle.rv_decode.specs.Packed.{packed}
use Rattle.rv_decode.specs.Encoded.{encoded, word_in}
use Rattle.rv_decode.specs.declared.insn.Insn.{Insn}
use Rattle.rv_decode.specs.declared.insn.Op.{Op}
use Rattle.rv_decode.specs.declared.insn.Op.TheVariants as ops
use Rattle.rv_decode.specs.declared.table.Row as code
use Rattle.rv_decode.specs.declared.table.Format.{Format}
use Rattle.rv_decode.specs.declared.table.Format.TheVariants as formats
use Rattle.rv_decode.specs.declared.table.TheConstants.{ROWS}
use Rattle.rv_decode.proofs.RowLemmas.{rows-are, and_split, decoded_means, means_decoded}
use Rattle.rv_decode.proofs.PackedWords.{packs, Packs, is_shaped}

both : (a b : Bool) → a ≡ true → b ≡ true → (a && b) ≡ true
both a b e f = rw (e, f) refl

-- the row of the table at a row of the code
pub listed : (rs : List code.Row) (i : ℕ) (r : code.Row) → slice_get rs i ≡ Some r → slice_get (map row_of rs) i ≡ Some (row_of r)
listed [] i r g = cc
listed (q ∷ rs) zero r g = let e : q ≡ r = cc in ap (λ x. Some (row_of x)) e
listed (q ∷ rs) (suc i) r g = listed rs i r g

pub in_table : (i : ℕ) (r : code.Row) → slice_get ROWS i ≡ Some r → slice_get rows i ≡ Some (row_of r)
in_table i r g = ap (λ rs. slice_get rs i) (sym rows-are) ∙ listed ROWS i r g

-- the format of a name, from the code's row
pub format_is : (op : Op) (r : code.Row) → slice_get ROWS (place_of op) ≡ Some r → r.format ≡ format_of op
unfolding format_of
format_is op r g = sym (ap format_in (in_table (place_of op) r g))

-- a name's row has 32 bits, excludes nothing, and has its format's mask
abbrev pub is_long : Option Row → Bool
is_long None = false
is_long (Some row) = row.length == 4 && is_shaped row.format row.is.mask row.is.value

abbrev pub names : Option Row → Option Op
names None = None
names (Some row) = Some row.op

abbrev excludes : Option Row → List Pattern
excludes None = []
excludes (Some row) = row.but

pub long : (op : Op) → is_long (slice_get rows (place_of op)) ≡ true
unfolding rows
long ops.Lui = refl
long op = refl

pub named : (op : Op) → names (slice_get rows (place_of op)) ≡ Some op
unfolding rows
named ops.Lui = refl
named op = refl

unexcluded : (op : Op) → excludes (slice_get rows (place_of op)) ≡ []
unfolding rows
unexcluded ops.Lui = refl
unexcluded op = refl

name_packs : (insn : Insn) (r : code.Row) (w : ℕ) → slice_get ROWS (place_of insn.op) ≡ Some r → w ≡ packed r.format r.value insn → fits insn ≡ true → Packs r.format r.mask r.value w insn
unfolding fits
name_packs insn r w g e h =
    let at = in_table (place_of insn.op) r g in
    let parts = and_split (r.length == 4) _ (ap is_long (sym at) ∙ long insn.op) in
    let range : in_range r.format insn ≡ true = ap (λ f. in_range f insn) (format_is insn.op r g) ∙ h in
    packs r.format insn r.mask r.value w parts.1 range e

pub is_encoded : (insn : Insn) (r : code.Row) (w : ℕ) → slice_get ROWS (place_of insn.op) ≡ Some r → w ≡ packed r.format r.value insn → w ≡ encoded insn
unfolding encoded
is_encoded insn r w g e = e ∙ sym (ap (λ row. word_in row insn) (in_table (place_of insn.op) r g))

pub encodes : (insn : Insn) (r : code.Row) (w : ℕ) → slice_get ROWS (place_of insn.op) ≡ Some r → w ≡ packed r.format r.value insn → fits insn ≡ true
    → decoded (w % 2 ^ 16) (w / 2 ^ 16) ≡ Some (insn, 4)
encodes insn r w g e h =
    let at = in_table (place_of insn.op) r g in
    let parts = and_split (r.length == 4) _ (ap is_long (sym at) ∙ long insn.op) in
    let len : r.length ≡ 4 = eqb-true _ _ parts.0 in
    let name : Some r.op ≡ Some insn.op = ap names (sym at) ∙ named insn.op in
    let op : r.op ≡ insn.op = cc in
    let but : (row_of r).but ≡ [] = ap excludes (sym at) ∙ unexcluded insn.op in
    let p = name_packs insn r w g e h in
    let same : w % 2 ^ 16 + 2 ^ 16 * (w / 2 ^ 16) ≡ w = omega arith in
    let is : bit_and w r.mask == r.value ≡ true = eq-eqb _ _ p.bits in
    let holds : holds_row (row_of r) w ≡ true = both _ _ is (ap (λ ps. holds_none ps w) but) in
    let fields : reads_of r.format r.op w ≡ insn = ap (λ o. reads_of r.format o w) op ∙ p.reads in
    means_decoded _ _ insn 4 (
      place_of insn.op,
      row_of r,
      record {
        listed = at;
        holds = ap (holds_row (row_of r)) same ∙ holds;
        fields = sym (ap (reads_of r.format r.op) same ∙ fields);
        length = sym len;
      },
    )

five : (n : ℕ) → is_register (n % 2 ^ 5) ≡ true
five n = grind (arith, nat_tests)

-- the ranges of numbers that are read
range_12 : (n : ℕ) → n < 4096 → is_signed 12 (signed 12 n) ≡ true
range_12 n h = grind (arith, ints, nat_tests)

range_13 : (n : ℕ) → n < 8192 → is_signed 13 (signed 13 n) ≡ true
range_13 n h = grind (arith, ints, nat_tests)

range_21 : (n : ℕ) → n < 2097152 → is_signed 21 (signed 21 n) ≡ true
range_21 n h = grind (arith, ints, nat_tests)

range_32 : (n : ℕ) → n < 4294967296 → is_signed 32 (signed 32 n) ≡ true
range_32 n h = grind (arith, ints, nat_tests)

even_13 : (n : ℕ) → n < 8192 → n % 2 ≡ 0 → is_multiple 2 (signed 13 n) ≡ true
even_13 n h e = grind (arith, ints, nat_tests)

even_21 : (n : ℕ) → n < 2097152 → n % 2 ≡ 0 → is_multiple 2 (signed 21 n) ≡ true
even_21 n h e = grind (arith, ints, nat_tests)

page_32 : (n : ℕ) → n < 4294967296 → n % 4096 ≡ 0 → is_multiple 4096 (signed 32 n) ≡ true
page_32 n h e = grind (arith, ints, nat_tests)

shift_6 : (n : ℕ) → n < 64 → is_shift 64 (pos n) ≡ true
shift_6 n h = grind (arith, ints, nat_tests)

shift_5 : (n : ℕ) → n < 32 → is_shift 32 (pos n) ≡ true
shift_5 n h = grind (arith, ints, nat_tests)

-- what a format reads is in its ranges
ranged_i : (w : ℕ) → (is_register (w / 2 ^ 7 % 2 ^ 5) && (is_register (w / 2 ^ 15 % 2 ^ 5) && is_signed 12 (signed 12 (w / 2 ^ 20 % 2 ^ 12 * 1 + 0)))) ≡ true
ranged_i w = both _ _ (five (w / 2 ^ 7)) (both _ _ (five (w / 2 ^ 15)) (range_12 (w / 2 ^ 20 % 2 ^ 12 * 1 + 0) (omega arith)))

ranged : (format : Format) (op : Op) (mask v w : ℕ) → is_shaped format mask v ≡ true → in_range format (reads_of format op w) ≡ true
ranged formats.R op mask v w s = both _ _ (five (w / 2 ^ 7)) (both _ _ (five (w / 2 ^ 15)) (both _ _ (five (w / 2 ^ 20)) refl))
ranged formats.I op mask v w s = ranged_i w
ranged formats.IOffset op mask v w s = ranged_i w
ranged formats.IShift op mask v w s = both _ _ (five (w / 2 ^ 7)) (both _ _ (five (w / 2 ^ 15)) (shift_6 (w / 2 ^ 20 % 2 ^ 6 * 1 + 0) (omega arith)))
ranged formats.IShiftWord op mask v w s = both _ _ (five (w / 2 ^ 7)) (both _ _ (five (w / 2 ^ 15)) (shift_5 (w / 2 ^ 20 % 2 ^ 5 * 1 + 0) (omega arith)))
ranged formats.S op mask v w s = both _ _ (five (w / 2 ^ 15)) (both _ _ (five (w / 2 ^ 20)) (range_12 (w / 2 ^ 25 % 2 ^ 7 * 2 ^ 5 + (w / 2 ^ 7 % 2 ^ 5 * 1 + 0)) (omega arith)))
ranged formats.B op mask v w s =
    let n = w / 2 ^ 31 % 2 ^ 1 * 2 ^ 12 + (w / 2 ^ 7 % 2 ^ 1 * 2 ^ 11 + (w / 2 ^ 25 % 2 ^ 6 * 2 ^ 5 + (w / 2 ^ 8 % 2 ^ 4 * 2 ^ 1 + 0))) in
    both _ _ (five (w / 2 ^ 15)) (both _ _ (five (w / 2 ^ 20)) (both _ _ (range_13 n (omega arith)) (even_13 n (omega arith) (omega arith))))
ranged formats.U op mask v w s =
    let n = w / 2 ^ 12 % 2 ^ 20 * 2 ^ 12 + 0 in both _ _ (five (w / 2 ^ 7)) (both _ _ (range_32 n (omega arith)) (page_32 n (omega arith) (omega arith)))
ranged formats.J op mask v w s =
    let n = w / 2 ^ 31 % 2 ^ 1 * 2 ^ 20 + (w / 2 ^ 12 % 2 ^ 8 * 2 ^ 12 + (w / 2 ^ 20 % 2 ^ 1 * 2 ^ 11 + (w / 2 ^ 21 % 2 ^ 10 * 2 ^ 1 + 0))) in
    both _ _ (five (w / 2 ^ 7)) (both _ _ (range_21 n (omega arith)) (even_21 n (omega arith) (omega arith)))
ranged formats.Fence op mask v w s = refl
ranged formats.Whole op mask v w s = refl
ranged format op mask v w s = cc

pub op_of : (format : Format) (op : Op) (w : ℕ) → (reads_of format op w).op ≡ op
op_of formats.R op w = refl
op_of format op w = refl

-- each row of 32 bits stands at its name's number and has its format's mask
abbrev pub is_placed : ℕ → Row → Bool
is_placed i row = if row.length == 4 then place_of row.op == i && is_shaped row.format row.is.mask row.is.value else true

abbrev pub are_placed : ℕ → List Row → Bool
are_placed i [] = true
are_placed i (row ∷ more) = is_placed i row && are_placed (i + 1) more

pub are-placed : are_placed 0 rows ≡ true
unfolding rows
are-placed = refl

pub placed_at : (i k at : ℕ) (rs : List Row) (row : Row) → at ≡ i + k → are_placed i rs ≡ true → slice_get rs k ≡ Some row → is_placed at row ≡ true
placed_at i k at [] row e h g = cc
placed_at i zero at (q ∷ rs) row e h g =
    let same : at ≡ i = omega arith in
    let is : q ≡ row = cc in
    let parts = and_split (is_placed i q) _ h in ap (λ j. is_placed j row) same ∙ ap (is_placed i) (sym is) ∙ parts.0
placed_at i (suc k) at (q ∷ rs) row e h g = let parts = and_split (is_placed i q) _ h in placed_at (i + 1) k at rs row (omega arith) parts.1 g

pub placed_parts : (i : ℕ) (row : Row) → is_placed i row ≡ true → row.length ≡ 4 → (place_of row.op ≡ i) × (is_shaped row.format row.is.mask row.is.value ≡ true)
placed_parts i row h e =
    let four : (row.length == 4) ≡ true = rw e refl in
    let h2 : (place_of row.op == i && is_shaped row.format row.is.mask row.is.value) ≡ true = rw four at h in
    let parts = and_split (place_of row.op == i) _ h2 in (eqb-true _ _ parts.0, parts.1)

meant_fits : (insn : Insn) → HasWord insn → fits insn ≡ true
unfolding fits format_of
meant_fits insn h =
    let w = h.0 in
    let m = decoded_means (w % 2 ^ 16) (w / 2 ^ 16) insn 4 h.2 in
    let row = m.1 in
    let means = m.2 in
    let parts = placed_parts m.0 row (placed_at 0 m.0 m.0 rows row (omega arith) are-placed means.listed) (sym means.length) in
    let v = word_of (w % 2 ^ 16) (w / 2 ^ 16) in
    let op : insn.op ≡ row.op = ap (λ (x : Insn). x.op) means.fields ∙ op_of row.format row.op v in
    let at : slice_get rows (place_of insn.op) ≡ Some row = ap (λ o. slice_get rows (place_of o)) op ∙ ap (slice_get rows) parts.0 ∙ means.listed in
    let format : format_in (slice_get rows (place_of insn.op)) ≡ row.format = ap format_in at in
    ap (λ f. in_range f insn) format ∙ ap (in_range row.format) means.fields ∙ ranged row.format row.op row.is.mask row.is.value v parts.1

-- the code's row of a name
row_for : (op : Op) → (r : code.Row) × (slice_get ROWS (place_of op) ≡ Some r)
row_for ops.Lui = (_, refl)
row_for op = (_, refl)

fit_meant : (insn : Insn) → fits insn ≡ true → HasWord insn
fit_meant insn h =
    let row = row_for insn.op in
    let w = packed row.0.format row.0.value insn in
    (w, (name_packs insn row.0 w row.1 refl h).below, encodes insn row.0 w row.1 refl h)

pub fits_exactly : FitsExactly
fits_exactly insn = (fit_meant insn, meant_fits insn)

register_of : (n : ℕ) → is_register n ≡ true → n < 32
register_of n h = grind (arith, nat_tests)

none_of : (n : ℕ) → (n == 0) ≡ true → n < 32
none_of n h = let e : n ≡ 0 = eqb-true _ _ h in omega arith

-- an instruction that is in its format's ranges names registers
in_range_names : (format : Format) (i : Insn) → in_range format i ≡ true → NamesRegisters i
in_range_names formats.R i h =
    let a = and_split (is_register i.rd) _ h in
    let b = and_split (is_register i.rs1) _ a.1 in
    let c = and_split (is_register i.rs2) _ b.1 in
    record { rd = register_of _ a.0; rs1 = register_of _ b.0; rs2 = register_of _ c.0 }
in_range_names formats.I i h =
    let a = and_split (is_register i.rd) _ h in
    let b = and_split (is_register i.rs1) _ a.1 in
    let c = and_split (i.rs2 == 0) _ b.1 in
    record { rd = register_of _ a.0; rs1 = register_of _ b.0; rs2 = none_of _ c.0 }
in_range_names formats.IOffset i h =
    let a = and_split (is_register i.rd) _ h in
    let b = and_split (is_register i.rs1) _ a.1 in
    let c = and_split (i.rs2 == 0) _ b.1 in
    record { rd = register_of _ a.0; rs1 = register_of _ b.0; rs2 = none_of _ c.0 }
in_range_names formats.IShift i h =
    let a = and_split (is_register i.rd) _ h in
    let b = and_split (is_register i.rs1) _ a.1 in
    let c = and_split (i.rs2 == 0) _ b.1 in
    record { rd = register_of _ a.0; rs1 = register_of _ b.0; rs2 = none_of _ c.0 }
in_range_names formats.IShiftWord i h =
    let a = and_split (is_register i.rd) _ h in
    let b = and_split (is_register i.rs1) _ a.1 in
    let c = and_split (i.rs2 == 0) _ b.1 in
    record { rd = register_of _ a.0; rs1 = register_of _ b.0; rs2 = none_of _ c.0 }
in_range_names formats.S i h =
    let a = and_split (i.rd == 0) _ h in
    let b = and_split (is_register i.rs1) _ a.1 in
    let c = and_split (is_register i.rs2) _ b.1 in
    record { rd = none_of _ a.0; rs1 = register_of _ b.0; rs2 = register_of _ c.0 }
in_range_names formats.B i h =
    let a = and_split (i.rd == 0) _ h in
    let b = and_split (is_register i.rs1) _ a.1 in
    let c = and_split (is_register i.rs2) _ b.1 in
    record { rd = none_of _ a.0; rs1 = register_of _ b.0; rs2 = register_of _ c.0 }
in_range_names formats.U i h =
    let a = and_split (is_register i.rd) _ h in
    let b = and_split (i.rs1 == 0) _ a.1 in
    let c = and_split (i.rs2 == 0) _ b.1 in
    record { rd = register_of _ a.0; rs1 = none_of _ b.0; rs2 = none_of _ c.0 }
in_range_names formats.J i h =
    let a = and_split (is_register i.rd) _ h in
    let b = and_split (i.rs1 == 0) _ a.1 in
    let c = and_split (i.rs2 == 0) _ b.1 in
    record { rd = register_of _ a.0; rs1 = none_of _ b.0; rs2 = none_of _ c.0 }
in_range_names formats.Fence i h =
    let a = and_split (i.rd == 0) _ h in
    let b = and_split (i.rs1 == 0) _ a.1 in
    let c = and_split (i.rs2 == 0) _ b.1 in
    record { rd = none_of _ a.0; rs1 = none_of _ b.0; rs2 = none_of _ c.0 }
in_range_names formats.Whole i h =
    let a = and_split (i.rd == 0) _ h in
    let b = and_split (i.rs1 == 0) _ a.1 in
    let c = and_split (i.rs2 == 0) _ b.1 in
    record { rd = none_of _ a.0; rs1 = none_of _ b.0; rs2 = none_of _ c.0 }
in_range_names format i h = cc

pub fits_names : (i : Insn) → fits i ≡ true → NamesRegisters i
unfolding fits
fits_names i h = in_range_names (format_of i.op) i h
