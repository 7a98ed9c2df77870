-- What the lines of code say.
use Rattle.std.proofs.Common.{◌≡◌, ◌≢◌, ℕ, zero, suc, ◌+◌, ◌-◌, ◌*◌, ◌/◌, ◌%◌, ◌^◌, ◌<◌, ◌≤◌, Bool, true, false, List, [], ◌∷◌, ◌++◌, length, drop, Option, Some, None, nat_le, not, refl, sym, ap, ◌∙◌, lit<, arith}
use Rattle.std.specs.Prelude.{All, if◌then◌else◌, ◌==◌}
use Rattle.std.specs.List.{flat_map}
use Rattle.std.proofs.lemmas.Bool.Decides.{nat_tests}
use Rattle.std.proofs.lemmas.List.Elements.{All-nil, All-cons, All-head, All-tail}
use Rattle.uh_base.specs.LittleEndian.{low_bytes}
use Rattle.pe_image.specs.Numbers.{u16_at}
use Rattle.rv_decode.specs.declared.insn.Insn.{Insn}
use Rattle.rv_decode.specs.Means.{decoded}
use Rattle.rv_decode.specs.RowLaws.{LengthIs, HasLength}
use Rattle.rv_decode.specs.Rows.{word_of}
use Rattle.image_dump.specs.Listings.{code_of, listed, SectionWordsAreBytes}
use Rattle.image_dump.specs.Code.{Front, front, half_front, word_front, no_instruction, is_first_of_two, lines_from, bytes_in, Decodes, WordsAreBytes, InstructionsDecode}

abbrev pub Byte : ℕ → Type 0
Byte b = b < 256

-- ---- which front it is

pub choose : (P : Front → Type 0) (b c : Bool) (x y z : Front) → (b ≡ false → P x) → (b ≡ true → c ≡ true → P y) → (b ≡ true → P z)
    → P (if not b then x else (if c then y else z))
choose P false c x y z p q r = p refl
choose P true true x y z p q r = q refl refl
choose P true false x y z p q r = r refl

pub long_enough : (n : ℕ) → nat_le 4 n ≡ true → 4 ≤ n
long_enough n h = grind (arith, nat_tests, h)

pub more_than_one : (n : ℕ) → (suc (suc n) == 1) ≡ false
more_than_one n = grind (arith, nat_tests)

-- ---- numbers of bytes

half_low : (b c : ℕ) → b < 256 → c < 256 → low_bytes 2 (b + 2 ^ 8 * c) ≡ b ∷ c ∷ []
unfolding low_bytes
half_low b c bb cc' =
    let low : (b + 256 * c) % 256 ≡ b = omega arith in
    let high : (b + 256 * c) / 256 % 256 ≡ c = omega arith in
    rw (low, high) refl

word_low : (b c d e : ℕ) → b < 256 → c < 256 → d < 256 → e < 256 → low_bytes 4 (word_of (b + 2 ^ 8 * c) (d + 2 ^ 8 * e)) ≡ b ∷ c ∷ d ∷ e ∷ []
unfolding low_bytes
word_low b c d e bb bc bd be =
    let one : (b + 256 * c + 65536 * (d + 256 * e)) % 256 ≡ b = omega arith in
    let rest : (b + 256 * c + 65536 * (d + 256 * e)) / 256 ≡ c + 256 * (d + 256 * e) = omega arith in
    let two : (c + 256 * (d + 256 * e)) % 256 ≡ c = omega arith in
    let rest' : (c + 256 * (d + 256 * e)) / 256 ≡ d + 256 * e = omega arith in
    let three : (d + 256 * e) % 256 ≡ d = omega arith in
    let rest'' : (d + 256 * e) / 256 ≡ e = omega arith in
    let four : e % 256 ≡ e = omega arith in
    rw (one, rest, two, rest', three, rest'', four) refl

pub half_of : (b c : ℕ) (more : List ℕ) → u16_at (b ∷ c ∷ more) 0 ≡ b + 2 ^ 8 * c
unfolding u16_at
half_of b c more = refl

pub second_of : (b c d e : ℕ) (more : List ℕ) → u16_at (b ∷ c ∷ d ∷ e ∷ more) 2 ≡ d + 2 ^ 8 * e
unfolding u16_at
second_of b c d e more = refl

-- ---- the bytes of a line are those in front

abbrev IsOf : List ℕ → Front → Type 0
IsOf bytes f = (0 < f.len) × (bytes_in f.line ++ drop f.len bytes ≡ bytes)

none_is : (at b c : ℕ) (more : List ℕ) → b < 256 → c < 256 → IsOf (b ∷ c ∷ more) (no_instruction at (u16_at (b ∷ c ∷ more) 0))
none_is at b c more hb hc = (lit< tt, rw (half_of b c more, half_low b c hb hc) refl)

half_is : (at b c : ℕ) (more : List ℕ) (o : Option (Insn × ℕ)) → b < 256 → c < 256 → IsOf (b ∷ c ∷ more) (half_front at (u16_at (b ∷ c ∷ more) 0) o)
half_is at b c more (Some found) hb hc = (lit< tt, rw (half_of b c more, half_low b c hb hc) refl)
half_is at b c more None hb hc = none_is at b c more hb hc

word_is : (at : ℕ) (bytes : List ℕ) (o : Option (Insn × ℕ)) → All Byte bytes → 4 ≤ length bytes → IsOf bytes (word_front at (u16_at bytes 0) (u16_at bytes 2) o)
word_is at [] o all long = absurd (omega (arith, long))
word_is at (b ∷ []) o all long = absurd (omega (arith, long))
word_is at (b ∷ c ∷ []) o all long = absurd (omega (arith, long))
word_is at (b ∷ c ∷ d ∷ []) o all long = absurd (omega (arith, long))
word_is at (b ∷ c ∷ d ∷ e ∷ more) (Some found) all long =
    let hb = All-head Byte b (c ∷ d ∷ e ∷ more) all in
    let t = All-tail Byte b (c ∷ d ∷ e ∷ more) all in
    let hc = All-head Byte c (d ∷ e ∷ more) t in
    let t' = All-tail Byte c (d ∷ e ∷ more) t in
    let hd = All-head Byte d (e ∷ more) t' in
    let he = All-head Byte e more (All-tail Byte d (e ∷ more) t') in
    (lit< tt, rw (half_of b c (d ∷ e ∷ more), second_of b c d e more, word_low b c d e hb hc hd he) refl)
word_is at (b ∷ c ∷ d ∷ e ∷ more) None all long =
    let hb = All-head Byte b (c ∷ d ∷ e ∷ more) all in
    let hc = All-head Byte c (d ∷ e ∷ more) (All-tail Byte b (c ∷ d ∷ e ∷ more) all) in
    none_is at b c (d ∷ e ∷ more) hb hc

last_low : (b : ℕ) → b % 256 ≡ b → low_bytes 1 b ++ [] ≡ b ∷ []
unfolding low_bytes
last_low b low = rw low refl

front_is : (at : ℕ) (bytes : List ℕ) → 0 < length bytes → All Byte bytes → IsOf bytes (front at bytes)
unfolding front
front_is at [] some all = absurd (omega (arith, some))
front_is at (b ∷ []) some all =
    let hb = All-head Byte b [] all in
    let low : b % 256 ≡ b = omega arith in
    (lit< tt, last_low b low)
front_is at (b ∷ c ∷ more) some all =
    let bytes = b ∷ c ∷ more in
    let hb = All-head Byte b (c ∷ more) all in
    let hc = All-head Byte c more (All-tail Byte b (c ∷ more) all) in
    let two = more_than_one (length more) in
    rw two (choose (IsOf bytes) (is_first_of_two (u16_at bytes 0)) (nat_le 4 (length bytes)) _ _ _
    (λ _. half_is at b c more (decoded (u16_at bytes 0) 0) hb hc)
    (λ _ long. word_is at bytes (decoded (u16_at bytes 0) (u16_at bytes 2)) all (long_enough (length bytes) long))
    (λ _. none_is at b c more hb hc))

-- ---- the words of the lines are the bytes

drop_none : (n : ℕ) → drop {A = ℕ} n [] ≡ []
drop_none zero = refl
drop_none (suc n) = refl

without_first : (n b : ℕ) (own bytes : List ℕ) → 0 < n → own ++ drop n (b ∷ bytes) ≡ b ∷ bytes → own ++ drop (n - 1) bytes ≡ b ∷ bytes
without_first zero b own bytes some h = absurd (omega (arith, some))
without_first (suc m) b own bytes some h = let e : suc m - 1 ≡ m = omega arith in rw e h

words_from : (at more : ℕ) (bytes : List ℕ) → All Byte bytes → flat_map bytes_in (lines_from at more bytes) ≡ drop more bytes
unfolding lines_from
words_from at more [] all = sym (drop_none more)
words_from at zero (b ∷ bytes) all =
    let is = front_is at (b ∷ bytes) (omega arith) all in
    ap (λ (l : List ℕ). bytes_in (front at (b ∷ bytes)).line ++ l) (words_from (at + 1) ((front at (b ∷ bytes)).len - 1) bytes (All-tail Byte b bytes all))
    ∙ without_first (front at (b ∷ bytes)).len b (bytes_in (front at (b ∷ bytes)).line) bytes is.0 is.1
words_from at (suc more) (b ∷ bytes) all = words_from (at + 1) more bytes (All-tail Byte b bytes all)

pub words_are_bytes : WordsAreBytes
words_are_bytes at bytes all = words_from at 0 bytes all

pub section_words_are_bytes : SectionWordsAreBytes
unfolding listed
section_words_are_bytes placed number section is all = rw is (words_are_bytes section.at (code_of placed section) all)

-- ---- instructions decode from their words

-- a length by the first half
two_long : LengthIs → (half other : ℕ) (found : Insn × ℕ) → is_first_of_two half ≡ false → decoded half other ≡ Some found → decoded half other ≡ Some (found.0, 2)
two_long lengths half other found first h =
    let long : HasLength half found.1 = lengths half other found.0 found.1 h in
    let no : half % 4 ≢ 3 = is_not (half % 4) first in
    let two : found.1 ≡ 2 = long.two.0 no in
    h ∙ ap (λ k. Some (found.0, k)) two
  where
    is_not : (n : ℕ) → (n == 3) ≡ false → n ≢ 3
    is_not n h = grind (arith, nat_tests, h)

four_long : LengthIs → (half other : ℕ) (found : Insn × ℕ) → is_first_of_two half ≡ true → decoded half other ≡ Some found → decoded half other ≡ Some (found.0, 4)
four_long lengths half other found first h =
    let long : HasLength half found.1 = lengths half other found.0 found.1 h in
    let is : half % 4 ≡ 3 = is_three (half % 4) first in
    let four : found.1 ≡ 4 = long.four.0 is in
    h ∙ ap (λ k. Some (found.0, k)) four
  where
    is_three : (n : ℕ) → (n == 3) ≡ true → n ≡ 3
    is_three n h = grind (arith, nat_tests, h)

half_decodes : LengthIs → (at half : ℕ) (o : Option (Insn × ℕ)) → is_first_of_two half ≡ false → decoded half 0 ≡ o → Decodes (half_front at half o).line
half_decodes lengths at half (Some found) first h = (found.0, two_long lengths half 0 found first h, refl)
half_decodes lengths at half None first h = tt

word_decodes : LengthIs → (at half0 half1 : ℕ) (o : Option (Insn × ℕ)) → half0 < 2 ^ 16 → is_first_of_two half0 ≡ true → decoded half0 half1 ≡ o → Decodes (word_front at half0 half1 o).line
word_decodes lengths at half0 half1 (Some found) small first h =
    let low : (half0 + 2 ^ 16 * half1) % 2 ^ 16 ≡ half0 = omega arith in
    let high : (half0 + 2 ^ 16 * half1) / 2 ^ 16 ≡ half1 = omega arith in
    (found.0, ap (λ l. decoded l ((half0 + 2 ^ 16 * half1) / 2 ^ 16)) low ∙ ap (decoded half0) high ∙ four_long lengths half0 half1 found first h, refl)
word_decodes lengths at half0 half1 None small first h = tt

pub small_half : (b c : ℕ) (more : List ℕ) → b < 256 → c < 256 → u16_at (b ∷ c ∷ more) 0 < 2 ^ 16
small_half b c more hb hc = rw (half_of b c more) (omega arith)

front_decodes : LengthIs → (at : ℕ) (bytes : List ℕ) → 0 < length bytes → All Byte bytes → Decodes (front at bytes).line
unfolding front
front_decodes lengths at [] some all = absurd (omega (arith, some))
front_decodes lengths at (b ∷ []) some all = tt
front_decodes lengths at (b ∷ c ∷ more) some all =
    let bytes = b ∷ c ∷ more in
    let small = small_half b c more (All-head Byte b (c ∷ more) all) (All-head Byte c more (All-tail Byte b (c ∷ more) all)) in
    let two = more_than_one (length more) in
    rw two (choose (λ f. Decodes f.line) (is_first_of_two (u16_at bytes 0)) (nat_le 4 (length bytes)) _ _ _
    (λ first. half_decodes lengths at (u16_at bytes 0) (decoded (u16_at bytes 0) 0) first refl)
    (λ first _. word_decodes lengths at (u16_at bytes 0) (u16_at bytes 2) (decoded (u16_at bytes 0) (u16_at bytes 2)) small first refl)
    (λ _. tt))

decodes_from : LengthIs → (at more : ℕ) (bytes : List ℕ) → All Byte bytes → All Decodes (lines_from at more bytes)
unfolding lines_from
decodes_from lengths at more [] all = All-nil Decodes
decodes_from lengths at zero (b ∷ bytes) all =
    All-cons Decodes (front at (b ∷ bytes)).line (lines_from (at + 1) ((front at (b ∷ bytes)).len - 1) bytes)
    (front_decodes lengths at (b ∷ bytes) (omega arith) all) (decodes_from lengths (at + 1) ((front at (b ∷ bytes)).len - 1) bytes (All-tail Byte b bytes all))
decodes_from lengths at (suc more) (b ∷ bytes) all = decodes_from lengths (at + 1) more bytes (All-tail Byte b bytes all)

pub instructions_decode : LengthIs → InstructionsDecode
instructions_decode lengths at bytes all = decodes_from lengths at 0 bytes all
