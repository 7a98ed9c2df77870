-- Digits and what they stand for.
use Rattle.std.proofs.Common.{◌≡◌, ℕ, zero, suc, ◌+◌, ◌-◌, ◌*◌, ◌/◌, ◌%◌, ◌^◌, ◌<◌, ◌≤◌, Bool, true, false, ◌&&◌, nat_lt, nat_le, List, [], ◌∷◌, ◌++◌, length, get_or, Option, Some, None, refl, sym, ap, ◌∙◌, arith, length-append}
use Rattle.std.specs.Prelude.{if◌then◌else◌}
use Rattle.std.specs.Fmt.{decimal}
use Rattle.std.proofs.Math.Nat.{pow-zero, pow-succ', pow-le-pow_right, mul-le-mul_left}
use Rattle.std.proofs.lemmas.Bool.Decides.{nat_tests}
use Rattle.std.proofs.lemmas.Fmt.{digits_decimal, digits_value-decimal, first_decimal, decimal_nonempty, decimal_digit}
use Rattle.std.proofs.lemmas.Str.Parse.{IsNumeralModel, IsDigitsTest, WeighsDigits, numerals_by_weight, not_in_digits}
use Rattle.std.proofs.lemmas.Bool.{and_parts}
use Rattle.std.specs.Int.{IsInRange}
use Rattle.uh_base.specs.Numbers.{digit_value, are_digits, value_of, digits_number, is_prefixed, hexadecimal_number, number_of}
use Rattle.uh_base.specs.Hex.{hex_digit, hex_digits}
use Rattle.uh_base.specs.DigitSteps.{joined, digits_from}

-- the number that digits give behind a number
abbrev pub digits_on : ℕ → ℕ → List ℕ → Option ℕ
digits_on base n bytes =
    if are_digits base bytes && nat_lt (n * base ^ length bytes + value_of base bytes) (2 ^ 64) then Some (n * base ^ length bytes + value_of base bytes) else None

-- a digit that is joined, and the power of the base behind it
moved : (base n d k v : ℕ) → n * base ^ suc k + (d * base ^ k + v) ≡ (n * base + d) * base ^ k + v
moved base n d k v = let p : base ^ suc k ≡ base * base ^ k = pow-succ' base k in rw p (omega arith)

-- what is too great stays so
too_great : (base m k v : ℕ) → 1 ≤ base → 2 ^ 64 ≤ m → 2 ^ 64 ≤ m * base ^ k + v
too_great base m zero v b h = let one : base ^ 0 ≡ 1 = pow-zero base in rw one (omega arith)
too_great base m (suc k) v b h =
    let p : base ^ suc k ≡ base * base ^ k = pow-succ' base k in
    let low : 2 ^ 64 ≤ m * base = omega (arith, mul-le-mul_left m b) in
    let same : m * base ^ suc k ≡ (m * base) * base ^ k = rw p (omega arith) in
    rw same (too_great base (m * base) k v b low)

no_digits : (base n : ℕ) → n < 2 ^ 64 → Some n ≡ digits_on base n []
no_digits base n small = let one : base ^ 0 ≡ 1 = pow-zero base in let same : n * base ^ 0 + 0 ≡ n = rw one (omega arith) in rw same (grind (arith, nat_tests))

-- a choice that fails whatever its first test says
never : (test : Bool) (o : Option ℕ) → (if test && false then o else None) ≡ None
never true o = refl
never false o = refl

-- a byte that is no digit, a digit that makes the number too great, and another
no_digit : (base n c : ℕ) (cs : List ℕ) → nat_lt (digit_value c) base ≡ false → digits_on base n (c ∷ cs) ≡ None
no_digit base n c cs d = rw d refl

too_many : (base n c : ℕ) (cs : List ℕ) → 1 ≤ base → nat_lt (digit_value c) base ≡ true → 2 ^ 64 ≤ n * base + digit_value c → digits_on base n (c ∷ cs) ≡ None
too_many base n c cs b d great =
    let all = too_great base (n * base + digit_value c) (length cs) (value_of base cs) b great in
    let no : nat_lt ((n * base + digit_value c) * base ^ length cs + value_of base cs) (2 ^ 64) ≡ false = grind (arith, nat_tests, all) in
    rw (d, moved base n (digit_value c) (length cs) (value_of base cs), no) (never (are_digits base cs) _)

one_more_digit : (base n c : ℕ) (cs : List ℕ) → nat_lt (digit_value c) base ≡ true → digits_on base n (c ∷ cs) ≡ digits_on base (n * base + digit_value c) cs
one_more_digit base n c cs d = rw (d, moved base n (digit_value c) (length cs) (value_of base cs)) refl

-- the digits behind a number, read one after another
more : (base n c : ℕ) (cs : List ℕ) → 1 ≤ base → (is_digit is_small : Bool) → nat_lt (digit_value c) base ≡ is_digit → nat_lt (n * base + digit_value c) (2 ^ 64) ≡ is_small → ((m : ℕ) → m < 2 ^ 64 → digits_from base (Some m) cs ≡ digits_on base m cs) → digits_from base (Some n) (c ∷ cs) ≡ digits_on base n (c ∷ cs)
more base n c cs b false is_small d s rest =
    let j : joined base n c ≡ None = rw d refl in
    ap (λ (o : Option ℕ). digits_from base o cs) j ∙ sym (no_digit base n c cs d)
more base n c cs b true true d s rest =
    let small : n * base + digit_value c < 2 ^ 64 = grind (arith, nat_tests, s) in
    let j : joined base n c ≡ Some (n * base + digit_value c) = rw (d, s) refl in
    ap (λ (o : Option ℕ). digits_from base o cs) j ∙ rest (n * base + digit_value c) small ∙ sym (one_more_digit base n c cs d)
more base n c cs b true false d s rest =
    let great : 2 ^ 64 ≤ n * base + digit_value c = grind (arith, nat_tests, s) in
    let j : joined base n c ≡ None = rw (d, s) refl in
    ap (λ (o : Option ℕ). digits_from base o cs) j ∙ sym (too_many base n c cs b d great)

pub digits_from-is : (base n : ℕ) (bytes : List ℕ) → 1 ≤ base → n < 2 ^ 64 → digits_from base (Some n) bytes ≡ digits_on base n bytes
digits_from-is base n [] b small = no_digits base n small
digits_from-is base n (c ∷ cs) b small = more base n c cs b (nat_lt (digit_value c) base) (nat_lt (n * base + digit_value c) (2 ^ 64)) refl refl (λ m small. digits_from-is base m cs b small)

pub digits_are : (base : ℕ) (bytes : List ℕ) → 1 ≤ base → digits_from base (Some 0) bytes ≡ digits_number base bytes
unfolding digits_number
digits_are base bytes b =
    let none : 0 * base ^ length bytes + value_of base bytes ≡ value_of base bytes = omega arith in
    digits_from-is base 0 bytes b (omega arith) ∙ ap (λ n. if are_digits base bytes && nat_lt n (2 ^ 64) then Some n else None) none

-- ---- the decimal text of a number

digit : (c : ℕ) → IsInRange 48 57 c → digit_value c ≡ c - 48
unfolding digit_value
digit c h = grind (arith, nat_tests, h)

ten : (c : ℕ) → nat_lt (digit_value c) 10 ≡ true → IsInRange 48 57 c
unfolding digit_value
ten c h = grind (arith, nat_tests, h)

is_ten : (c : ℕ) → IsInRange 48 57 c → nat_lt (digit_value c) 10 ≡ true
is_ten c h = rw (digit c h) (grind (arith, nat_tests, h))

abbrev AreDecimal : List ℕ → Type 0
AreDecimal ds = are_digits 10 ds ≡ true

tested : IsDigitsTest AreDecimal
tested = record {
  empty = refl;
  parts = λ c cs h. let p = and_parts _ _ h in (ten c p.0, p.1);
  more = λ c cs r h. let t = is_ten c r in rw t h;
}

weighed : WeighsDigits (value_of 10)
weighed = record {
  empty = refl;
  more = λ c cs r. rw (digit c r) refl;
}

own : IsNumeralModel AreDecimal (value_of 10)
own = numerals_by_weight AreDecimal tested (value_of 10) weighed

not_x : ¬ (IsInRange 48 57 120)
not_x h = grind (arith, nat_tests, h)

unprefixed : (ds : List ℕ) → AreDecimal ds → is_prefixed ds ≡ false
unprefixed ds h = by (nat_le 2 (length ds)) refl
  where
    by : (b : Bool) → nat_le 2 (length ds) ≡ b → is_prefixed ds ≡ false
    by false e = rw e refl
    by true e = let n = not_in_digits own ds 120 h not_x 1 (grind (arith, nat_tests, e)) in grind (arith, nat_tests, n)

pub number_of_decimal : (n : ℕ) → n < 2 ^ 64 → number_of (decimal n) ≡ Some n
unfolding number_of digits_number digit_value
number_of_decimal zero h = rw (decimal_digit 0 (omega arith)) refl
number_of_decimal (suc m) h =
    let n = suc m in
    let a : AreDecimal (decimal n) = digits_decimal own n h in
    let v : value_of 10 (decimal n) ≡ n = digits_value-decimal own n h in
    let p : is_prefixed (decimal n) ≡ false = unprefixed (decimal n) a in
    let first : 48 < get_or (decimal n) 0 0 = first_decimal n (omega arith) h in
    let long : 0 < length (decimal n) = decimal_nonempty n h in
    rw (p, a, v) (grind (arith, nat_tests, first, long))

-- ---- the hexadecimal digits of a number

glyph : (d : ℕ) → d < 16 → digit_value (hex_digit d) ≡ d
unfolding digit_value
glyph d h = grind (arith, nat_tests)

length-hex_digits : (count n : ℕ) → length (hex_digits count n) ≡ count
unfolding hex_digits
length-hex_digits zero n = refl
length-hex_digits (suc count) n = omega (arith, length-append (hex_digits count (n / 16)) (hex_digit (n % 16) ∷ []), length-hex_digits count (n / 16))

-- one digit behind others
value_of-last : (base : ℕ) (bytes : List ℕ) (b : ℕ) → value_of base (bytes ++ b ∷ []) ≡ value_of base bytes * base + digit_value b
value_of-last base [] b = let one : base ^ 0 ≡ 1 = pow-zero base in rw one (omega arith)
value_of-last base (c ∷ cs) b =
    let len : length (cs ++ b ∷ []) ≡ suc (length cs) = length-append cs (b ∷ []) ∙ omega arith in
    let p : base ^ suc (length cs) ≡ base * base ^ length cs = pow-succ' base (length cs) in
    let rest = value_of-last base cs b in
    rw (len, p, rest) (omega arith)

are_digits-last : (base : ℕ) (bytes : List ℕ) (b : ℕ) → are_digits base bytes ≡ true → nat_lt (digit_value b) base ≡ true → are_digits base (bytes ++ b ∷ []) ≡ true
are_digits-last base [] b all last = rw last refl
are_digits-last base (c ∷ cs) b all last =
    let p = and_parts _ _ all in
    let first : nat_lt (digit_value c) base ≡ true = p.0 in
    rw first (are_digits-last base cs b p.1 last)

hex_are_digits : (count n : ℕ) → are_digits 16 (hex_digits count n) ≡ true
unfolding hex_digits
hex_are_digits zero n = refl
hex_are_digits (suc count) n =
    let d : n % 16 < 16 = omega arith in
    let g = glyph (n % 16) d in
    are_digits-last 16 (hex_digits count (n / 16)) (hex_digit (n % 16)) (hex_are_digits count (n / 16)) (rw g (grind (arith, nat_tests, d)))

hex_value : (count n : ℕ) → n < 16 ^ count → value_of 16 (hex_digits count n) ≡ n
unfolding hex_digits
hex_value zero n h = omega arith
hex_value (suc count) n h =
    let p : 16 ^ suc count ≡ 16 * 16 ^ count = pow-succ' 16 count in
    let fits : n < 16 * 16 ^ count = rw p at h in
    let less : n / 16 < 16 ^ count = omega arith in
    let d : n % 16 < 16 = omega arith in
    value_of-last 16 (hex_digits count (n / 16)) (hex_digit (n % 16)) ∙ (rw (hex_value count (n / 16) less, glyph (n % 16) d) (omega arith))

pub number_of_hex_digits : (count n : ℕ) → 1 ≤ count → count ≤ 16 → n < 16 ^ count → hexadecimal_number (hex_digits count n) ≡ Some n
unfolding digits_number
number_of_hex_digits count n low high h =
    let most : 16 ^ count ≤ 16 ^ 16 = pow-le-pow_right {n = 16} (omega arith) high in
    let small : n < 2 ^ 64 = omega arith in
    rw (length-hex_digits count n, hex_are_digits count n, hex_value count n h) (grind (arith, nat_tests, small, low, high))
