-- Dates of the kit's calendar.
use Rattle.std.proofs.Common.{◌≡◌, ℕ, ◌+◌, ◌-◌, ◌<◌, ◌≤◌, min, to_z, of_z, w16, refl, sym, ap, arith, true, ℤ, pos, negsuc, ◌+ℤ◌, ◌≤ℤ◌, unsigned_abs}
use Rattle.std.specs.Prelude.{Some, None, option_map}
use Rattle.std.proofs.lemmas.Int.{by_lt_z, ints}
use Rattle.jiff_core.specs.declared.civil.date.Date.{Date as JiffDate}
use Rattle.jiff_core.specs.Calendar.{day_count, days_in_month, IsCivilDate, IsYear}
use Rattle.jiff_core.specs.Date.{epoch_day}
use Rattle.jiff_core.proofs.SignedLemmas.{signed_arith, back_small}
use Rattle.jiff_core.proofs.CalendarLemmas.{days_from_civil-day_count, day_count-lt_year, day_count-later_year, day_count-day_of_year, day_count_bounds}
use Rattle.jiff_core.proofs.DateLemmas.{civil}
use Rattle.time_service.specs.Days.{day_number, date_of}
use Rattle.time_service.specs.Times.{is_date}
use Rattle.time_service.proofs.DayLemmas.{first_count, date_is, date_after}
use Rattle.time_service.proofs.TimeLemmas.{parts, civil_of, date_of_civil}

-- its count, by the number from the first day that the kit has
count_of : (d : JiffDate) (days number : ℕ) → epoch_day d +ℤ pos 4_371_587 ≡ pos days → days ≡ number + 4_346_020 → day_count d.year d.month d.day ≡ number + 4_346_386
count_of d days number e is = omega (arith, signed_arith, days_from_civil-day_count)

from_1900 : (y : ℤ) (month day number : ℕ) → IsCivilDate y month day → day_count y month day ≡ number + 4_346_386 → pos 1900 ≤ℤ y
from_1900 y month day number c count =
    by_lt_z y (pos 1900) (λ lt. absurd (omega (arith, day_count-lt_year y month day (pos 1900) 1 1 c (omega arith) lt, first_count))) (λ le. le)

-- a year that is a number
year_is : (y : ℤ) → pos 1900 ≤ℤ y → (y ≡ pos (unsigned_abs y)) × (1900 ≤ unsigned_abs y)
year_is (pos n) h = (refl, omega (arith, signed_arith))
year_is (negsuc n) h = absurd (omega (arith, signed_arith))

module _ (d : JiffDate) (days number : ℕ) (e : epoch_day d +ℤ pos 4_371_587 ≡ pos days) (is : days ≡ number + 4_346_020) where
  year : (d.year ≡ pos (unsigned_abs d.year)) × (1900 ≤ unsigned_abs d.year)
  year = year_is d.year (from_1900 d.year d.month d.day number (civil d) (count_of d days number e is))

  pub starts : 1900 ≤ unsigned_abs d.year
  starts = year.1

  there : IsCivilDate (pos (unsigned_abs d.year)) d.month d.day
  there = let back = sym year.0 in rw back (civil d)

  pub is_day : is_date (unsigned_abs d.year) d.month d.day ≡ true
  is_day = date_of_civil (unsigned_abs d.year) d.month d.day there

  pub date_found : Some (unsigned_abs d.year, d.month, d.day) ≡ option_map parts (date_of number)
  date_found =
      let count : day_count (pos (unsigned_abs d.year)) d.month d.day ≡ number + 4_346_386 = (let back = sym year.0 in rw back (count_of d days number e is)) in
      rw (date_is number (unsigned_abs d.year) d.month d.day year.1 there count) refl

pub date_missed : (number : ℕ) → 2_958_463 < number → None ≡ option_map parts (date_of number)
date_missed number h = rw (date_after number h) refl

-- no date from 1900 on comes before its first day
first_day : (y : ℕ) → 1900 ≤ y → 4_346_386 ≤ day_count (pos y) 1 1
first_day y low =
    by_lt_z (pos 1900) (pos y) (λ lt. omega (arith, first_count, day_count-later_year (pos 1900) (pos y) (omega (arith, signed_arith)) lt))
    (λ le. let same : y ≡ 1900 = omega (arith, signed_arith) in rw (same, first_count) (omega arith))

pub first_enough : (y m n : ℕ) → 1900 ≤ y → IsCivilDate (pos y) m n → 4_346_386 ≤ day_count (pos y) m n
first_enough y m n low c = let some = c.2.0 in omega (arith, first_day y low, day_count-day_of_year (pos y) m n some)

-- the number of a day, counted from the first that the kit has
module _ (d : JiffDate) (y m n days : ℕ) (low : 1900 ≤ y) (last : y ≤ 9999) (h : is_date y m n ≡ true) (year_is : d.year ≡ pos y) (month_is : d.month ≡ m) (day_is : d.day ≡ n)
    (e : epoch_day d +ℤ pos 4_371_587 ≡ pos days) where
  count : day_count (pos y) m n + 4_371_587 ≡ days + 4_371_953
  count = let c : day_count d.year d.month d.day + 4_371_587 ≡ days + 4_371_953 = omega (arith, signed_arith, days_from_civil-day_count) in rw (year_is, month_is, day_is) at c

  c : IsCivilDate (pos y) m n
  c = civil_of y m n last h

  enough : 4_346_386 ≤ day_count (pos y) m n
  enough = first_enough y m n low c

  pub number_fits : 4_346_020 ≤ days
  number_fits = omega (arith, count, enough)

  pub number_bound : days - 4_346_020 < 2_958_464
  number_bound = omega (arith, count, enough, day_count_bounds (pos y) m n c)

  pub number_is : days - 4_346_020 ≡ day_number y m n
  unfolding day_number
  number_is = rw first_count (omega (arith, count, enough))

-- a year as a signed number
pub year_kept : (y : ℕ) → y ≤ 9999 → to_z w16 y ≡ pos y
year_kept y h = grind (arith, ints)

pub day_kept : (y m n : ℕ) → y ≤ 9999 → is_date y m n ≡ true → min n (days_in_month (to_z w16 y) m) ≡ n
day_kept y m n last h =
    let most = (civil_of y m n last h).2.1 in
    let same = year_kept y last in
    rw same (omega arith)

pub year_shown : (z : ℤ) → IsYear z → unsigned_abs (to_z w16 (of_z w16 z)) ≡ unsigned_abs z
year_shown (pos n) h = ap unsigned_abs (back_small w16 (pos n) (omega (arith, signed_arith)))
year_shown (negsuc n) h = ap unsigned_abs (back_small w16 (negsuc n) (omega (arith, signed_arith)))
