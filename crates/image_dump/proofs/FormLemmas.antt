-- The lines of code keep their forms: the text of an instruction is printable ASCII.
use Rattle.std.proofs.Common.{◌≡◌, ℕ, ℤ, pos, negsuc, zero, suc, ◌+◌, ◌-◌, ◌/◌, ◌%◌, ◌^◌, ◌<◌, ◌≤◌, Bool, true, false, List, [], ◌∷◌, ◌++◌, length, Option, Some, None, nat_le, refl, ◌∙◌, codes, arith}
use Rattle.std.specs.Prelude.{All, if◌then◌else◌, ◌==◌, slice_get}
use Rattle.std.specs.List.{list_all}
use Rattle.std.specs.Str.{bytes_eq}
use Rattle.std.specs.Fmt.{digit_glyph, digits_onto, digits, decimal, signed_decimal}
use Rattle.std.proofs.lemmas.Bool.{and_parts}
use Rattle.std.proofs.lemmas.Bool.Decides.{nat_tests}
use Rattle.std.proofs.lemmas.List.Elements.{All-nil, All-cons, All-head, All-tail}
use Rattle.std.proofs.lemmas.List.Folds.{list_all-append}
use Rattle.uh_base.specs.ConsoleText.{is_printable}
use Rattle.pe_image.specs.Numbers.{u16_at}
use Rattle.rv_decode.specs.declared.insn.Insn.{Insn}
use Rattle.rv_decode.specs.declared.insn.Op.{Op}
use Rattle.rv_decode.specs.declared.insn.Op.TheVariants as ops
use Rattle.rv_decode.specs.Means.{decoded}
use Rattle.rv_decode.specs.Texts.{register_names, register_name, or_empty, name_of, comma, based, upper_field, text_of}
use Rattle.record_text.specs.ImageTexts.{is_instruction_text, IsImageLine}
use Rattle.image_dump.specs.declared.instruction.Operands.{Operands as AnyOperands}
use Rattle.image_dump.specs.declared.instruction.Operands.TheVariants.{Registers, Number, Load, Store, Branch, Upper, Distance, Nothing}
use Rattle.image_dump.specs.Code.{front, half_front, word_front, is_first_of_two, lines_from, LinesKeepForms}
use Rattle.image_dump.specs.Operands.{operands_of, operands_text}
use Rattle.image_dump.proofs.LawLemmas.{Byte, choose, long_enough, more_than_one, second_of, small_half}
use Rattle.image_dump.proofs.TextLemmas.{text_parts}

-- ---- printable texts

record Plain (s : List ℕ) : Type 0 where
  pub each : list_all is_printable s ≡ true

joined : (a b : List ℕ) → Plain a → Plain b → Plain (a ++ b)
joined a b p q = record { each = list_all-append is_printable a b ∙ rw (p.each, q.each) refl }

before : (c : ℕ) (s : List ℕ) → is_printable c ≡ true → Plain s → Plain (c ∷ s)
before c s p q = record { each = rw (p, q.each) refl }

pick : (b : Bool) (x y : List ℕ) → Plain x → Plain y → Plain (if b then x else y)
pick true x y p q = p
pick false x y p q = q

glyph : (n : ℕ) → is_printable (digit_glyph false (n % 10)) ≡ true
glyph n = let low : n % 10 < 10 = omega arith in grind (arith, nat_tests, low)

onto : (k n : ℕ) (acc : List ℕ) → Plain acc → Plain (digits_onto k 10 false n acc)
onto zero n acc h = h
onto (suc k) n acc h =
    let more : Plain (digit_glyph false (n % 10) ∷ acc) = before (digit_glyph false (n % 10)) acc (glyph n) h in
    pick (n / 10 == 0) (digit_glyph false (n % 10) ∷ acc) (digits_onto k 10 false (n / 10) (digit_glyph false (n % 10) ∷ acc)) more (onto k (n / 10) (digit_glyph false (n % 10) ∷ acc) more)

decimal_plain : (n : ℕ) → Plain (decimal n)
unfolding digits
decimal_plain n = onto 64 n [] (record { each = refl })

signed_plain : (z : ℤ) → Plain (signed_decimal z)
signed_plain (pos n) = decimal_plain n
signed_plain (negsuc n) = before 45 (decimal (suc n)) refl (decimal_plain (suc n))

one_of : (names : List (List ℕ)) (n : ℕ) → list_all (list_all is_printable) names ≡ true → Plain (or_empty (slice_get names n))
one_of [] n h = record { each = refl }
one_of (x ∷ xs) zero h = record { each = (and_parts _ _ h).0 }
one_of (x ∷ xs) (suc n) h = one_of xs n (and_parts _ _ h).1

register_plain : (n : ℕ) → Plain (register_name n)
unfolding register_name register_names
register_plain n = one_of register_names n refl

name_plain : (op : Op) → Plain (name_of op)
unfolding name_of
name_plain ops.Lui = record { each = refl }
name_plain op = record { each = refl }

comma_plain : (a b : List ℕ) → Plain a → Plain b → Plain (comma a b)
comma_plain a b p q = joined a (44 ∷ 32 ∷ b) p (before 44 (32 ∷ b) refl (before 32 b refl q))

based_plain : (z : ℤ) (base : List ℕ) → Plain base → Plain (based z base)
based_plain z base q = joined (signed_decimal z ++ 40 ∷ base) (41 ∷ []) (joined (signed_decimal z) (40 ∷ base) (signed_plain z) (before 40 base refl q)) (record { each = refl })

operands_plain : (operands : AnyOperands) (i : Insn) → Plain (operands_text operands i)
operands_plain Registers i = before 32 _ refl (comma_plain _ _ (register_plain i.rd) (comma_plain _ _ (register_plain i.rs1) (register_plain i.rs2)))
operands_plain Number i = before 32 _ refl (comma_plain _ _ (register_plain i.rd) (comma_plain _ _ (register_plain i.rs1) (signed_plain i.imm)))
operands_plain Load i = before 32 _ refl (comma_plain _ _ (register_plain i.rd) (based_plain i.imm _ (register_plain i.rs1)))
operands_plain Store i = before 32 _ refl (comma_plain _ _ (register_plain i.rs2) (based_plain i.imm _ (register_plain i.rs1)))
operands_plain Branch i = before 32 _ refl (comma_plain _ _ (register_plain i.rs1) (comma_plain _ _ (register_plain i.rs2) (signed_plain i.imm)))
operands_plain Upper i = before 32 _ refl (comma_plain _ _ (register_plain i.rd) (decimal_plain (upper_field i)))
operands_plain Distance i = before 32 _ refl (comma_plain _ _ (register_plain i.rd) (signed_plain i.imm))
operands_plain Nothing i = record { each = refl }

no_dash : (op : Op) (rest : List ℕ) → bytes_eq (name_of op ++ rest) (codes "-") ≡ false
unfolding name_of
no_dash ops.Lui rest = refl
no_dash op rest = refl

text_keeps_form : (i : Insn) → is_instruction_text (text_of i) ≡ true
text_keeps_form i =
    let plain : Plain (name_of i.op ++ operands_text (operands_of i.op) i) = joined _ _ (name_plain i.op) (operands_plain (operands_of i.op) i) in
    let no : bytes_eq (name_of i.op ++ operands_text (operands_of i.op) i) (codes "-") ≡ false = no_dash i.op (operands_text (operands_of i.op) i) in
    rw (text_parts i, plain.each, no) refl

-- ---- lines

half_form : (at half : ℕ) (o : Option (Insn × ℕ)) → at < 2 ^ 32 → half < 2 ^ 16 → IsImageLine (half_front at half o).line
half_form at half (Some found) a h = (text_keeps_form found.0, (a, h))
half_form at half None a h = (tt, (a, h))

word_form : (at half0 half1 : ℕ) (o : Option (Insn × ℕ)) → at < 2 ^ 32 → half0 < 2 ^ 16 → half1 < 2 ^ 16 → IsImageLine (word_front at half0 half1 o).line
word_form at half0 half1 (Some found) a h k = (text_keeps_form found.0, (a, omega (arith, h, k)))
word_form at half0 half1 None a h k = (tt, (a, h))

small_second : (bytes : List ℕ) → All Byte bytes → 4 ≤ length bytes → u16_at bytes 2 < 2 ^ 16
small_second [] all long = absurd (omega (arith, long))
small_second (b ∷ []) all long = absurd (omega (arith, long))
small_second (b ∷ c ∷ []) all long = absurd (omega (arith, long))
small_second (b ∷ c ∷ d ∷ []) all long = absurd (omega (arith, long))
small_second (b ∷ c ∷ d ∷ e ∷ more) all long =
    let t = All-tail Byte c (d ∷ e ∷ more) (All-tail Byte b (c ∷ d ∷ e ∷ more) all) in
    let hd : d < 256 = All-head Byte d (e ∷ more) t in
    let he : e < 256 = All-head Byte e more (All-tail Byte d (e ∷ more) t) in
    rw (second_of b c d e more) (omega arith)

front_form : (at : ℕ) (bytes : List ℕ) → 0 < length bytes → at < 2 ^ 32 → All Byte bytes → IsImageLine (front at bytes).line
unfolding front
front_form at [] some a all = absurd (omega (arith, some))
front_form at (b ∷ []) some a all = (tt, (a, All-head Byte b [] all))
front_form at (b ∷ c ∷ more) some a all =
    let bytes = b ∷ c ∷ more in
    let small = small_half b c more (All-head Byte b (c ∷ more) all) (All-head Byte c more (All-tail Byte b (c ∷ more) all)) in
    let two = more_than_one (length more) in
    rw two (choose (λ f. IsImageLine f.line) (is_first_of_two (u16_at bytes 0)) (nat_le 4 (length bytes)) _ _ _
    (λ _. half_form at (u16_at bytes 0) (decoded (u16_at bytes 0) 0) a small)
    (λ _ long. word_form at (u16_at bytes 0) (u16_at bytes 2) (decoded (u16_at bytes 0) (u16_at bytes 2)) a small (small_second bytes all (long_enough (length bytes) long)))
    (λ _. (tt, (a, small))))

forms_from : (at more : ℕ) (bytes : List ℕ) → All Byte bytes → at + length bytes ≤ 2 ^ 32 → All IsImageLine (lines_from at more bytes)
unfolding lines_from
forms_from at more [] all inside = All-nil IsImageLine
forms_from at zero (b ∷ bytes) all inside =
    All-cons IsImageLine (front at (b ∷ bytes)).line (lines_from (at + 1) ((front at (b ∷ bytes)).len - 1) bytes)
    (front_form at (b ∷ bytes) (omega arith) (omega (arith, inside)) all)
    (forms_from (at + 1) ((front at (b ∷ bytes)).len - 1) bytes (All-tail Byte b bytes all) (omega (arith, inside)))
forms_from at (suc more) (b ∷ bytes) all inside = forms_from (at + 1) more bytes (All-tail Byte b bytes all) (omega (arith, inside))

pub lines_keep_forms : LinesKeepForms
lines_keep_forms at bytes all inside = forms_from at 0 bytes all inside
