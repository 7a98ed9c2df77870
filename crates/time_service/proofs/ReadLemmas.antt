-- Texts of times, written and read.
use Rattle.std.proofs.Common.{◌≡◌, ℕ, ◌+◌, ◌-◌, ◌*◌, ◌/◌, ◌%◌, ◌<◌, ◌≤◌, List, [], ◌∷◌, get_or, refl, sym, subst, arith, Bool, true, false, pos}
use Rattle.std.specs.Prelude.{◌==◌, ◌&&◌, codes, nat_le, Some, None, if◌then◌else◌}
use Rattle.std.proofs.lemmas.Bool.Decides.{nat_tests}
use Rattle.std.proofs.lemmas.Slice.Eq.{text_from_reads}
use Rattle.time_service.specs.declared.efi_time.EfiTime.{EfiTime}
use Rattle.time_service.specs.Times.{is_valid}
use Rattle.time_service.specs.Clocks.{ClockState, set_to}
use Rattle.time_service.specs.Texts.{fits_character, fits_form, time_in, clock_of, digit, text_of}
use Rattle.time_service.specs.Laws.{IsLocal, SaysTime}
use Rattle.jiff_core.proofs.CalendarLemmas.{days_in_month_bounds}
use Rattle.time_service.proofs.TimeLemmas.{parts_of, civil_of, and_true, and_both}
use Rattle.time_service.proofs.LawLemmas.{same_time}
use Rattle.time_service.proofs.TextLemmas.{fits_length}

digit_fits : (n : ℕ) → fits_character 48 (digit n) ≡ true
digit_fits n = grind (arith, nat_tests)

-- the text of a time is in the form
in_form : (time : EfiTime) → fits_form (codes "0000-00-00T00:00:00") (text_of time) ≡ true
unfolding fits_form text_of
in_form t =
    and_both _ _ (digit_fits (t.year / 100 / 10)) (and_both _ _ (digit_fits (t.year / 100)) (and_both _ _ (digit_fits (t.year / 10)) (and_both _ _ (digit_fits t.year)
    (and_both _ _ (digit_fits (t.month / 10)) (and_both _ _ (digit_fits t.month) (and_both _ _ (digit_fits (t.day / 10)) (and_both _ _ (digit_fits t.day)
    (and_both _ _ (digit_fits (t.hour / 10)) (and_both _ _ (digit_fits t.hour) (and_both _ _ (digit_fits (t.minute / 10)) (and_both _ _ (digit_fits t.minute)
    (and_both _ _ (digit_fits (t.second / 10)) (and_both _ _ (digit_fits t.second) refl)))))))))))))

-- two digits and their number
value : (n : ℕ) → digit (n / 10) % 16 * 10 + digit n % 16 ≡ n % 100
value n = omega arith

small : (n : ℕ) → n < 100 → digit (n / 10) % 16 * 10 + digit n % 16 ≡ n
small n h = omega (arith, value n)

time_back : (time : EfiTime) → IsLocal time → time_in (text_of time) ≡ time
unfolding time_in text_of
time_back t local =
    let p = parts_of t local.valid in
    let last = p.last in
    let civil = civil_of t.year t.month t.day p.last p.civil in
    let most = civil.1.1 in
    let month : t.month < 100 = omega arith in
    let long = days_in_month_bounds (pos t.year) t.month in
    let in_month = civil.2.1 in
    let day : t.day < 100 = omega arith in
    let h = p.hour in
    let m = p.minute in
    let s = p.second in
    same_time t _ _ _ _ _ _ _ _ _ (omega (arith, value (t.year / 100), value t.year)) (small t.month month) (small t.day day) (small t.hour (omega arith)) (small t.minute (omega arith)) (small t.second (omega arith))
    (sym local.whole) (sym local.local) (sym local.plain)

pub written : (time : EfiTime) → IsLocal time → clock_of (text_of time) ≡ Some (set_to 0 time)
unfolding clock_of
written t local = rw (in_form t, time_back t local, local.valid) refl

-- a character that is a digit
record IsDigit (c : ℕ) : Type 0 where
  pub low : 48 ≤ c
  pub high : c ≤ 57

is_digit : (c : ℕ) → fits_character 48 c ≡ true → IsDigit c
is_digit c h =
    let p = and_true (nat_le 48 c) (nat_le c 57) h in
    let a = p.0 in
    let b = p.1 in
    record { low = grind (arith, nat_tests); high = grind (arith, nat_tests) }

is_mark : (mark c : ℕ) → (c == mark) ≡ true → c ≡ mark
is_mark mark c h = grind (arith, nat_tests)

-- two digits by their number
first_back : (a b : ℕ) → IsDigit a → IsDigit b → digit ((a % 16 * 10 + b % 16) / 10) ≡ a
first_back a b p q = let x = p.low in let y = p.high in let z = q.low in let w = q.high in omega arith

second_back : (a b : ℕ) → IsDigit a → IsDigit b → digit (a % 16 * 10 + b % 16) ≡ b
second_back a b p q = let x = p.low in let y = p.high in let z = q.low in let w = q.high in omega arith

-- four digits by theirs
module _ (a b c d : ℕ) (p : IsDigit a) (q : IsDigit b) (r : IsDigit c) (s : IsDigit d) where
  low_two : c % 16 * 10 + d % 16 < 100
  low_two = let x = r.low in let y = r.high in let z = s.low in let w = s.high in omega arith

  century : ((a % 16 * 10 + b % 16) * 100 + (c % 16 * 10 + d % 16)) / 100 ≡ a % 16 * 10 + b % 16
  century = omega (arith, low_two)

  year_first : digit (((a % 16 * 10 + b % 16) * 100 + (c % 16 * 10 + d % 16)) / 100 / 10) ≡ a
  year_first = rw century (first_back a b p q)

  year_second : digit (((a % 16 * 10 + b % 16) * 100 + (c % 16 * 10 + d % 16)) / 100) ≡ b
  year_second = rw century (second_back a b p q)

  year_third : digit (((a % 16 * 10 + b % 16) * 100 + (c % 16 * 10 + d % 16)) / 10) ≡ c
  year_third = let x = r.low in let y = r.high in let z = s.low in let w = s.high in let h : (c % 16 * 10 + d % 16) / 10 ≡ c - 48 = omega arith in omega (arith, h)

  year_fourth : digit ((a % 16 * 10 + b % 16) * 100 + (c % 16 * 10 + d % 16)) ≡ d
  year_fourth = let x = r.low in let y = r.high in let z = s.low in let w = s.high in omega arith

abbrev cells : ℕ → ℕ → ℕ → ℕ → ℕ → ℕ → ℕ → ℕ → ℕ → ℕ → ℕ → ℕ → ℕ → ℕ → ℕ → ℕ → ℕ → ℕ → ℕ → List ℕ
cells a b c d e f g h i j k l m n o p q r s = a ∷ b ∷ c ∷ d ∷ e ∷ f ∷ g ∷ h ∷ i ∷ j ∷ k ∷ l ∷ m ∷ n ∷ o ∷ p ∷ q ∷ r ∷ s ∷ []

cells_back : (c0 c1 c2 c3 c4 c5 c6 c7 c8 c9 c10 c11 c12 c13 c14 c15 c16 c17 c18 : ℕ) → fits_form (codes "0000-00-00T00:00:00") (cells c0 c1 c2 c3 c4 c5 c6 c7 c8 c9 c10 c11 c12 c13 c14 c15 c16 c17 c18) ≡ true → cells c0 c1 c2 c3 c4 c5 c6 c7 c8 c9 c10 c11 c12 c13 c14 c15 c16 c17 c18 ≡ text_of (time_in (cells c0 c1 c2 c3 c4 c5 c6 c7 c8 c9 c10 c11 c12 c13 c14 c15 c16 c17 c18))
unfolding fits_form text_of time_in
cells_back c0 c1 c2 c3 c4 c5 c6 c7 c8 c9 c10 c11 c12 c13 c14 c15 c16 c17 c18 fits =
    let p0 = and_true _ _ fits in
    let d0 = is_digit c0 p0.0 in
    let p1 = and_true _ _ p0.1 in
    let d1 = is_digit c1 p1.0 in
    let p2 = and_true _ _ p1.1 in
    let d2 = is_digit c2 p2.0 in
    let p3 = and_true _ _ p2.1 in
    let d3 = is_digit c3 p3.0 in
    let p4 = and_true _ _ p3.1 in
    let m4 : c4 ≡ 45 = is_mark 45 c4 p4.0 in
    let p5 = and_true _ _ p4.1 in
    let d5 = is_digit c5 p5.0 in
    let p6 = and_true _ _ p5.1 in
    let d6 = is_digit c6 p6.0 in
    let p7 = and_true _ _ p6.1 in
    let m7 : c7 ≡ 45 = is_mark 45 c7 p7.0 in
    let p8 = and_true _ _ p7.1 in
    let d8 = is_digit c8 p8.0 in
    let p9 = and_true _ _ p8.1 in
    let d9 = is_digit c9 p9.0 in
    let p10 = and_true _ _ p9.1 in
    let m10 : c10 ≡ 84 = is_mark 84 c10 p10.0 in
    let p11 = and_true _ _ p10.1 in
    let d11 = is_digit c11 p11.0 in
    let p12 = and_true _ _ p11.1 in
    let d12 = is_digit c12 p12.0 in
    let p13 = and_true _ _ p12.1 in
    let m13 : c13 ≡ 58 = is_mark 58 c13 p13.0 in
    let p14 = and_true _ _ p13.1 in
    let d14 = is_digit c14 p14.0 in
    let p15 = and_true _ _ p14.1 in
    let d15 = is_digit c15 p15.0 in
    let p16 = and_true _ _ p15.1 in
    let m16 : c16 ≡ 58 = is_mark 58 c16 p16.0 in
    let p17 = and_true _ _ p16.1 in
    let d17 = is_digit c17 p17.0 in
    let p18 = and_true _ _ p17.1 in
    let d18 = is_digit c18 p18.0 in
    let e0 = year_first c0 c1 c2 c3 d0 d1 d2 d3 in
    let e1 = year_second c0 c1 c2 c3 d0 d1 d2 d3 in
    let e2 = year_third c0 c1 c2 c3 d0 d1 d2 d3 in
    let e3 = year_fourth c0 c1 c2 c3 d0 d1 d2 d3 in
    let e4 = first_back c5 c6 d5 d6 in
    let e5 = second_back c5 c6 d5 d6 in
    let e6 = first_back c8 c9 d8 d9 in
    let e7 = second_back c8 c9 d8 d9 in
    let e8 = first_back c11 c12 d11 d12 in
    let e9 = second_back c11 c12 d11 d12 in
    let e10 = first_back c14 c15 d14 d15 in
    let e11 = second_back c14 c15 d14 d15 in
    let e12 = first_back c17 c18 d17 d18 in
    let e13 = second_back c17 c18 d17 d18 in
    rw (e0, e1, e2, e3, e4, e5, e6, e7, e8, e9, e10, e11, e12, e13, m4, m7, m10, m13, m16) refl

text_is : (text : List ℕ) → fits_form (codes "0000-00-00T00:00:00") text ≡ true → text ≡ text_of (time_in text)
text_is text fits =
    let same : text ≡ cells (get_or text 0 0) (get_or text 1 0) (get_or text 2 0) (get_or text 3 0) (get_or text 4 0) (get_or text 5 0) (get_or text 6 0) (get_or text 7 0) (get_or text 8 0) (get_or text 9 0) (get_or text 10 0) (get_or text 11 0) (get_or text 12 0) (get_or text 13 0) (get_or text 14 0) (get_or text 15 0) (get_or text 16 0) (get_or text 17 0) (get_or text 18 0) = text_from_reads text _ (fits_length (codes "0000-00-00T00:00:00") text fits) (refl, (refl, (refl, (refl, (refl, (refl, (refl, (refl, (refl, (refl, (refl, (refl, (refl, (refl, (refl, (refl, (refl, (refl, (refl, tt))))))))))))))))))) in
    let form : fits_form (codes "0000-00-00T00:00:00") (cells (get_or text 0 0) (get_or text 1 0) (get_or text 2 0) (get_or text 3 0) (get_or text 4 0) (get_or text 5 0) (get_or text 6 0) (get_or text 7 0) (get_or text 8 0) (get_or text 9 0) (get_or text 10 0) (get_or text 11 0) (get_or text 12 0) (get_or text 13 0) (get_or text 14 0) (get_or text 15 0) (get_or text 16 0) (get_or text 17 0) (get_or text 18 0)) ≡ true = subst (λ x. fits_form (codes "0000-00-00T00:00:00") x ≡ true) same fits in
    let back = cells_back (get_or text 0 0) (get_or text 1 0) (get_or text 2 0) (get_or text 3 0) (get_or text 4 0) (get_or text 5 0) (get_or text 6 0) (get_or text 7 0) (get_or text 8 0) (get_or text 9 0) (get_or text 10 0) (get_or text 11 0) (get_or text 12 0) (get_or text 13 0) (get_or text 14 0) (get_or text 15 0) (get_or text 16 0) (get_or text 17 0) (get_or text 18 0) form in
    subst (λ x. x ≡ text_of (time_in x)) (sym same) back

local_in : (text : List ℕ) → is_valid (time_in text) ≡ true → IsLocal (time_in text)
unfolding time_in
local_in text h = record { valid = h; whole = refl; local = refl; plain = refl }

pub only : (text : List ℕ) (clock : ClockState) → clock_of text ≡ Some clock → SaysTime text clock
unfolding clock_of
only text clock h = by (fits_form (codes "0000-00-00T00:00:00") text) (is_valid (time_in text)) refl refl h
  where
    by : (a b : Bool) → fits_form (codes "0000-00-00T00:00:00") text ≡ a → is_valid (time_in text) ≡ b → (if a && b then Some (set_to 0 (time_in text)) else None) ≡ Some clock → SaysTime text clock
    by true true form valid k = record { time = time_in text; fits = local_in text valid; said = text_is text form; set = (let same : set_to 0 (time_in text) ≡ clock = cc in sym same) }
    by true false form valid k = absurd (cc)
    by false b form valid k = absurd (cc)
