-- Console text is taken apart into the units that it is the text of.
use Rattle.std.proofs.Common.{◌≡◌, ℕ, zero, suc, ◌+◌, ◌*◌, ◌/◌, ◌%◌, ◌^◌, ◌<◌, ◌≤◌, Bool, true, false, not, ◌&&◌, nat_le, List, [], ◌∷◌, ◌++◌, length, drop, Some, None, refl, sym, ap, ◌∙◌, arith}
use Rattle.std.specs.Prelude.{◌==◌, slice_index, All, if◌then◌else◌}
use Rattle.std.proofs.lemmas.Bool.{and_parts}
use Rattle.std.proofs.lemmas.List.{drop_at}
use Rattle.std.proofs.lemmas.Bool.Decides.{nat_tests}
use Rattle.uh_base.specs.Hex.{hex_digit, hex_digits}
use Rattle.uh_base.specs.ConsoleText.{is_printable, is_surrogate, unit_text, units_text, IsConsoleText}
use Rattle.record_text.specs.Console.{is_digit, digit, are_digits, unit_in, is_escape, unit_len, behind_unit, behind_more, behind_units}

-- ---- digits

digit-hex_digit : (d : ℕ) → d < 16 → digit (hex_digit d) ≡ d
unfolding digit
digit-hex_digit d h = grind (arith, nat_tests, h)

is_digit-hex_digit : (d : ℕ) → d < 16 → is_digit (hex_digit d) ≡ true
is_digit-hex_digit d h = grind (arith, nat_tests, h)

digit_small : (b : ℕ) → is_digit b ≡ true → digit b < 16
unfolding digit
digit_small b h = grind (arith, nat_tests, h)

hex_digit-digit : (b : ℕ) → is_digit b ≡ true → hex_digit (digit b) ≡ b
unfolding digit
hex_digit-digit b h = grind (arith, nat_tests, h)

-- four digits of a unit, from the greatest
abbrev first : ℕ → ℕ
first u = u / 16 / 16 / 16 % 16

abbrev second : ℕ → ℕ
second u = u / 16 / 16 % 16

abbrev third : ℕ → ℕ
third u = u / 16 % 16

four_digits : (u : ℕ) → hex_digits 4 u ≡ hex_digit (first u) ∷ hex_digit (second u) ∷ hex_digit (third u) ∷ hex_digit (u % 16) ∷ []
unfolding hex_digits
four_digits u = refl

-- what four digits make, and the digits of it
made : (u : ℕ) → u < 2 ^ 16 → ((first u * 16 + second u) * 16 + third u) * 16 + u % 16 ≡ u
made u h = omega arith

-- ---- the text of a unit is taken at once

-- a unit that isn't printable
taken_escape : (u : ℕ) (rest : List ℕ) → u < 2 ^ 16 → is_printable u ≡ false → is_surrogate u ≡ false
    → is_escape (92 ∷ 117 ∷ hex_digit (first u) ∷ hex_digit (second u) ∷ hex_digit (third u) ∷ hex_digit (u % 16) ∷ rest) ≡ true
unfolding is_escape are_digits unit_in
taken_escape u rest h p s =
    let a : first u < 16 = omega arith in
    let b : second u < 16 = omega arith in
    let c : third u < 16 = omega arith in
    let d : u % 16 < 16 = omega arith in
    let long : nat_le 6 (length (92 ∷ 117 ∷ hex_digit (first u) ∷ hex_digit (second u) ∷ hex_digit (third u) ∷ hex_digit (u % 16) ∷ rest)) ≡ true = grind (arith, nat_tests) in
    rw (
      is_digit-hex_digit (first u) a,
      is_digit-hex_digit (second u) b,
      is_digit-hex_digit (third u) c,
      is_digit-hex_digit (u % 16) d,
      digit-hex_digit (first u) a,
      digit-hex_digit (second u) b,
      digit-hex_digit (third u) c,
      digit-hex_digit (u % 16) d,
      made u h,
      p,
      s,
      long,
    ) refl

-- a unit that is no surrogate, with what follows: its text is as long as the first unit's
taken : (u : ℕ) (rest : List ℕ) → u < 2 ^ 16 → is_surrogate u ≡ false → unit_len (unit_text u ++ rest) ≡ length (unit_text u)
unfolding unit_text unit_len
taken u rest h s = by (u == 92) refl (is_printable u) refl
  where
    by : (slash : Bool) → (u == 92) ≡ slash → (shown : Bool) → is_printable u ≡ shown → unit_len (unit_text u ++ rest) ≡ length (unit_text u)
    by true e shown p = let is : u ≡ 92 = grind (arith, nat_tests, e) in rw is (grind (arith, nat_tests))
    by false e true p = rw (e, p) (rw (p, e) (grind (arith, nat_tests)))
    by false e false p =
        let four = four_digits u in
        let six = taken_escape u rest h p s in
        rw (e, p, s, four) (rw six (grind (arith, nat_tests)))

-- ---- what is taken is the text of a unit

abbrev pub IsUnit : ℕ → List ℕ → Type 0
IsUnit len text = (u : ℕ) × (u < 2 ^ 16) × (text ≡ unit_text u ++ drop len text)

-- the parts of an escape
record IsEscape (y a b c d u : ℕ) : Type 0 where
  letter : y ≡ 117
  first : is_digit a ≡ true
  second : is_digit b ≡ true
  third : is_digit c ≡ true
  fourth : is_digit d ≡ true
  unit : u ≡ ((digit a * 16 + digit b) * 16 + digit c) * 16 + digit d
  hidden : is_printable u ≡ false
  alone : is_surrogate u ≡ false

not_true : (b : Bool) → not b ≡ true → b ≡ false
not_true true h = cc
not_true false h = refl

the_letter : (y : ℕ) → (y == 117) ≡ true → y ≡ 117
the_letter y h = grind (arith, nat_tests, h)

parts : (z y a b c d : ℕ) (rest : List ℕ) → is_escape (z ∷ y ∷ a ∷ b ∷ c ∷ d ∷ rest) ≡ true → IsEscape y a b c d (unit_in (z ∷ y ∷ a ∷ b ∷ c ∷ d ∷ rest))
unfolding is_escape are_digits unit_in
parts z y a b c d rest h =
    let all = (and_parts _ _ h).1 in
    let digits = and_parts _ _ (and_parts _ _ all).1 in
    let shown = and_parts _ _ digits.1 in
    let one = and_parts _ _ digits.0 in
    let two = and_parts _ _ one.1 in
    let three = and_parts _ _ two.1 in
    record {
      letter = the_letter y (and_parts _ _ all).0;
      first = one.0;
      second = two.0;
      third = three.0;
      fourth = three.1;
      unit = refl;
      hidden = not_true _ shown.0;
      alone = not_true _ shown.1;
    }

digits_of : (a b c d u : ℕ) → a < 16 → b < 16 → c < 16 → d < 16 → u ≡ ((a * 16 + b) * 16 + c) * 16 + d → (first u ≡ a) × (second u ≡ b) × (third u ≡ c) × (u % 16 ≡ d)
digits_of a b c d u p q r s is = (omega arith, omega arith, omega arith, omega arith)

six_bytes : (y a b c d u : ℕ) (rest : List ℕ) → IsEscape y a b c d u → IsUnit 6 (92 ∷ y ∷ a ∷ b ∷ c ∷ d ∷ rest)
unfolding unit_text
six_bytes y a b c d u rest is =
    let p = digit_small a is.first in
    let q = digit_small b is.second in
    let r = digit_small c is.third in
    let s = digit_small d is.fourth in
    let split = digits_of (digit a) (digit b) (digit c) (digit d) u p q r s is.unit in
    let small : u < 2 ^ 16 = omega (arith, p, q, r, s, is.unit) in
    let hidden = is.hidden in
    let alone = is.alone in
    let no_slash : (u == 92) ≡ false = grind (arith, nat_tests, hidden) in
    let four = four_digits u in
    (u, small, rw (no_slash, hidden, alone, four, split.0, split.1, split.2, split.3, hex_digit-digit a is.first, hex_digit-digit b is.second, hex_digit-digit c is.third, hex_digit-digit d is.fourth, is.letter) refl)

long_enough : (text : List ℕ) → is_escape text ≡ true → 6 ≤ length text
unfolding is_escape
long_enough text h = let p = (and_parts _ _ h).0 in let e : nat_le 6 (length text) ≡ true = p in grind (arith, nat_tests, e)

taken_escaped : (text : List ℕ) → slice_index text 0 ≡ 92 → is_escape text ≡ true → IsUnit 6 text
taken_escaped (z ∷ y ∷ a ∷ b ∷ c ∷ d ∷ rest) slash h = let e : z ≡ 92 = slash in rw e (six_bytes y a b c d _ rest (parts z y a b c d rest h))
taken_escaped text slash h = let long = long_enough text h in absurd (omega (arith, long))

-- a byte that stands for itself, and two backslashes
taken_byte : (text : List ℕ) → 1 ≤ length text → is_printable (slice_index text 0) ≡ true → (slice_index text 0 == 92) ≡ false → IsUnit 1 text
unfolding unit_text
taken_byte [] long shown other = absurd (omega arith)
taken_byte (c ∷ cs) long shown other =
    let p : is_printable c ≡ true = shown in
    let e : (c == 92) ≡ false = other in
    let small : c < 2 ^ 16 = grind (arith, nat_tests, p) in
    (c, small, rw (e, p) refl)

taken_slashes : (text : List ℕ) → 2 ≤ length text → slice_index text 0 ≡ 92 → slice_index text 1 ≡ 92 → IsUnit 2 text
unfolding unit_text
taken_slashes [] long first second = absurd (omega arith)
taken_slashes (c ∷ []) long first second = absurd (omega arith)
taken_slashes (c ∷ d ∷ cs) long first second = let e : c ≡ 92 = first in let f : d ≡ 92 = second in (92, omega arith, rw (e, f) refl)

-- what a unit's length takes
not_empty : (text : List ℕ) (shown : Bool) → (nat_le 1 (length text) && shown) ≡ true → 1 ≤ length text
not_empty text shown p = grind (arith, nat_tests, p)

unit_taken : (text : List ℕ) → 0 < unit_len text → IsUnit (unit_len text) text
unfolding unit_len
unit_taken text some = by (nat_le 1 (length text) && is_printable (slice_index text 0)) refl (slice_index text 0 == 92) refl (nat_le 2 (length text) && slice_index text 1 == 92) refl (is_escape text) refl some
  where
    by : (shown : Bool) → (nat_le 1 (length text) && is_printable (slice_index text 0)) ≡ shown → (slash : Bool) → (slice_index text 0 == 92) ≡ slash
        → (two : Bool) → (nat_le 2 (length text) && slice_index text 1 == 92) ≡ two → (six : Bool) → is_escape text ≡ six
        → 0 < (if not shown then 0 else (if not slash then 1 else (if two then 2 else (if six then 6 else 0))))
        → IsUnit (if not shown then 0 else (if not slash then 1 else (if two then 2 else (if six then 6 else 0)))) text
    by false p slash q two r six s some = absurd (omega arith)
    by true p false q two r six s some = taken_byte text (not_empty text _ p) (and_parts _ _ p).1 q
    by true p true q true r six s some =
        let long : 2 ≤ length text = grind (arith, nat_tests, r) in
        let one : slice_index text 0 ≡ 92 = grind (arith, nat_tests, q) in
        let two : slice_index text 1 ≡ 92 = grind (arith, nat_tests, r) in
        taken_slashes text long one two
    by true p true q false r true s some = let one : slice_index text 0 ≡ 92 = grind (arith, nat_tests, q) in taken_escaped text one s
    by true p true q false r false s some = absurd (omega arith)

-- ---- units one after another

record IsUnits (n : ℕ) (text : List ℕ) : Type 0 where
  units : List ℕ
  few : length units ≤ n
  halves : All (λ unit. unit < 2 ^ 16) units
  same : text ≡ units_text units

-- a unit in front of others
both : (u : ℕ) (us : List ℕ) → u < 2 ^ 16 → All (λ unit. unit < 2 ^ 16) us → All (λ unit. unit < 2 ^ 16) (u ∷ us)
both u us h all zero d k = h
both u us h all (suc i) d k = all i d (omega arith)

others : (u : ℕ) (us : List ℕ) → All (λ unit. unit < 2 ^ 16) (u ∷ us) → All (λ unit. unit < 2 ^ 16) us
others u us all k d h = all (suc k) d (omega arith)

no_units : (n : ℕ) → IsUnits n []
unfolding units_text
no_units n = record { units = []; few = omega arith; halves = λ k d h. absurd (omega arith); same = refl }

one_more : (n len : ℕ) (text : List ℕ) → IsUnit len text → IsUnits n (drop len text) → IsUnits (suc n) text
unfolding units_text
one_more n len text unit more = record {
  units = unit.0 ∷ more.units;
  few = omega (arith, more.few);
  halves = both unit.0 more.units unit.1 more.halves;
  same = unit.2 ∙ ap (λ rest. unit_text unit.0 ++ rest) more.same;
}

read : (n : ℕ) (text : List ℕ) → behind_units n text ≡ [] → IsUnits n text
unfolding behind_units behind_unit
read zero text h = rw h (no_units zero)
read (suc n) text h = by (unit_len text == 0) refl (λ rest e. read n rest e) h
  where
    by : (b : Bool) → (unit_len text == 0) ≡ b → ((rest : List ℕ) → behind_units n rest ≡ [] → IsUnits n rest)
        → behind_more (λ rest. behind_units n rest) text (if b then None else Some (drop (unit_len text) text)) ≡ [] → IsUnits (suc n) text
    by true e go h = rw h (no_units (suc n))
    by false e go h = let some : 0 < unit_len text = grind (arith, nat_tests, e) in one_more n (unit_len text) text (unit_taken text some) (go (drop (unit_len text) text) h)

nothing : (n : ℕ) → behind_units n [] ≡ []
unfolding behind_units behind_unit unit_len
nothing zero = refl
nothing (suc n) = refl

some_bytes : (u : ℕ) → is_surrogate u ≡ false → 0 < length (unit_text u)
unfolding unit_text
some_bytes u s = by (u == 92) refl (is_printable u) refl
  where
    by : (slash : Bool) → (u == 92) ≡ slash → (shown : Bool) → is_printable u ≡ shown → 0 < length (unit_text u)
    by true e shown p = rw e (omega arith)
    by false e true p = rw (e, p) (omega arith)
    by false e false p = rw (e, p, s) (omega arith)

no_bytes : (u : ℕ) → is_surrogate u ≡ true → unit_text u ≡ []
unfolding unit_text
no_bytes u s =
    let e : (u == 92) ≡ false = grind (arith, nat_tests, s) in
    let p : is_printable u ≡ false = grind (arith, nat_tests, s) in
    rw (e, p, s) refl

behind_one : (u : ℕ) (rest : List ℕ) → u < 2 ^ 16 → is_surrogate u ≡ false → behind_unit (unit_text u ++ rest) ≡ Some rest
unfolding behind_unit
behind_one u rest h s =
    let len = taken u rest h s in
    let some = some_bytes u s in
    let test : (length (unit_text u) == 0) ≡ false = grind (arith, nat_tests, some) in
    rw (len, test) (ap (λ (xs : List ℕ). Some xs) (drop_at (unit_text u) rest (length (unit_text u)) refl))

written : (us : List ℕ) (n : ℕ) → length us ≤ n → All (λ unit. unit < 2 ^ 16) us → behind_units n (units_text us) ≡ []
unfolding units_text behind_units
written [] n few all = nothing n
written (u ∷ us) zero few all = absurd (omega arith)
written (u ∷ us) (suc n) few all = by (is_surrogate u) refl (λ k few. written us k few (others u us all))
  where
    by : (b : Bool) → is_surrogate u ≡ b → ((k : ℕ) → length us ≤ k → behind_units k (units_text us) ≡ []) → behind_units (suc n) (unit_text u ++ units_text us) ≡ []
    by true s go = rw (no_bytes u s) (go (suc n) (omega arith))
    by false s go = ap (behind_more (λ rest. behind_units n rest) (unit_text u ++ units_text us)) (behind_one u (units_text us) (all 0 0 (omega arith)) s) ∙ go n (omega arith)

empty : (xs : List ℕ) → (length xs == 0) ≡ true → xs ≡ []
empty [] h = refl
empty (x ∷ xs) h = absurd (grind (arith, nat_tests, h))

pub is_read : (text : List ℕ) → (length (behind_units 4096 text) == 0) ≡ true → IsConsoleText text
is_read text h =
    let all = read 4096 text (empty (behind_units 4096 text) h) in
    record { units = all.units; few = all.few; halves = all.halves; same = all.same }

pub is_written : (text : List ℕ) → IsConsoleText text → (length (behind_units 4096 text) == 0) ≡ true
is_written text is = let e : behind_units 4096 text ≡ [] = ap (behind_units 4096) is.same ∙ written is.units 4096 is.few is.halves in rw e refl

-- ---- the loop

pub stays : (n : ℕ) (text : List ℕ) → None ≡ behind_unit text → behind_units n text ≡ text
unfolding behind_units
stays zero text h = refl
stays (suc n) text h = ap (behind_more (λ rest. behind_units n rest) text) (sym h)

pub goes_on : (k n : ℕ) (text rest : List ℕ) → k ≡ suc n → Some rest ≡ behind_unit text → behind_units n rest ≡ behind_units k text
unfolding behind_units
goes_on k n text rest is h = rw is (ap (behind_more (λ rest. behind_units n rest) text) h)

pub at_last : (k : ℕ) (text : List ℕ) → k ≡ 0 → behind_units k text ≡ text
unfolding behind_units
at_last k text is = rw is refl

pub is_end : (r : Bool) (rest whole : List ℕ) → r ≡ (length rest == 0) → rest ≡ whole → r ≡ (length whole == 0)
is_end r rest whole h is = h ∙ ap (λ (xs : List ℕ). length xs == 0) is
