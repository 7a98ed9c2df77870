-- Dates and their numbers.
use Rattle.std.proofs.Common.{◌≡◌, ℕ, zero, suc, ◌+◌, ◌-◌, ◌<◌, ◌≤◌, refl, ap, ◌∙◌, arith, true, false, pos}
use Rattle.std.specs.Prelude.{nat_lt, Some, None}
use Rattle.std.proofs.lemmas.Bool.Decides.{nat_tests}
use Rattle.jiff_core.specs.Calendar.{days_in_month, days_in_year, days_of_months, day_count, IsCivilDate}
use Rattle.jiff_core.proofs.SignedLemmas.{signed_arith}
use Rattle.jiff_core.proofs.MarchLemmas.{day_count-early}
use Rattle.jiff_core.proofs.CalendarLemmas.{days_of_months-zero, days_of_months_more, days_of_months_mono, day_of_year_bound, day_count-day_of_year, day_count-next_year, day_count-later_year, day_count-end}
use Rattle.time_service.specs.Days.{in_month, in_year, date_of}

pub first_count : day_count (pos 1900) 1 1 ≡ 4_346_386
first_count = day_count-early (pos 1900) 11899 1 1 refl (omega arith) (omega arith) (omega arith)

-- a day so many months later
months_later : (more k year month end days rest : ℕ) → k ≤ more → end ≡ month + k → 1 ≤ month
    → days + days_of_months (pos year) (month - 1) ≡ days_of_months (pos year) (end - 1) + rest → rest < days_in_month (pos year) end
    → in_month more year month days ≡ record { year = year; month = end; day = rest + 1 }
unfolding in_month
months_later zero zero year month end days rest h e low count short =
    let same : end ≡ month = omega arith in
    let here : days ≡ rest = (let c = rw same at count in omega (arith, c)) in
    rw (same, here) refl
months_later zero (suc k) year month end days rest h e low count short = absurd (omega arith)
months_later (suc more) zero year month end days rest h e low count short =
    let same : end ≡ month = omega arith in
    let here : days ≡ rest = (let c = rw same at count in omega (arith, c)) in
    let short' : rest < days_in_month (pos year) month = rw same at short in
    let test : nat_lt days (days_in_month (pos year) month) ≡ true = rw here (grind (arith, nat_tests)) in
    rw (test, same, here) refl
months_later (suc more) (suc k) year month end days rest h e low count short =
    let n = days_in_month (pos year) month in
    let far = days_of_months_mono (pos year) month (end - 1) (omega arith) in
    let next = days_of_months_more (pos year) month low in
    let long : n ≤ days = omega arith in
    let test : nat_lt days n ≡ false = grind (arith, nat_tests) in
    let back : month + 1 - 1 ≡ month = omega arith in
    let less : days - n + days_of_months (pos year) (month + 1 - 1) ≡ days_of_months (pos year) (end - 1) + rest = rw back (omega arith) in
    rw test (months_later more k year (month + 1) end (days - n) rest (omega arith) (omega arith) (omega arith) less short)

-- the next year begins behind this one
pub next_year : (year : ℕ) → day_count (pos (year + 1)) 1 1 ≡ day_count (pos year) 1 1 + days_in_year (pos year)
next_year year = day_count-next_year (pos year) (pos (year + 1)) (omega (arith, signed_arith)) (omega (arith, signed_arith))

-- a day so many years later
years_later : (more k year end days rest : ℕ) → k < more → end ≡ year + k
    → days + day_count (pos year) 1 1 ≡ day_count (pos end) 1 1 + rest → rest < days_in_year (pos end)
    → in_year more year days ≡ Some (in_month 11 end 1 rest)
unfolding in_year
years_later zero k year end days rest h e count short = absurd (omega arith)
years_later (suc more) zero year end days rest h e count short =
    let same : end ≡ year = omega arith in
    let here : days ≡ rest = (let c = rw same at count in omega (arith, c)) in
    let short' : rest < days_in_year (pos year) = rw same at short in
    let test : nat_lt days (days_in_year (pos year)) ≡ true = rw here (grind (arith, nat_tests)) in
    rw (test, same, here) refl
years_later (suc more) (suc k) year end days rest h e count short =
    let n = days_in_year (pos year) in
    let far = day_count-later_year (pos year) (pos end) (omega (arith, signed_arith)) (omega (arith, signed_arith)) in
    let next = next_year year in
    let long : n ≤ days = omega arith in
    let test : nat_lt days n ≡ false = grind (arith, nat_tests) in
    rw test (years_later more k (year + 1) end (days - n) rest (omega arith) (omega arith) (omega arith) short)

-- a day behind all of the years
years_past : (more year end days : ℕ) → end ≡ year + more → day_count (pos end) 1 1 ≤ days + day_count (pos year) 1 1 → in_year more year days ≡ None
unfolding in_year
years_past zero year end days e h = refl
years_past (suc more) year end days e h =
    let n = days_in_year (pos year) in
    let far = day_count-later_year (pos year) (pos end) (omega (arith, signed_arith)) (omega (arith, signed_arith)) in
    let next = next_year year in
    let long : n ≤ days = omega arith in
    let test : nat_lt days n ≡ false = grind (arith, nat_tests) in
    rw test (years_past more (year + 1) end (days - n) (omega arith) (omega arith))

-- the date of a number
pub date_is : (number year month day : ℕ) → 1900 ≤ year → IsCivilDate (pos year) month day → day_count (pos year) month day ≡ number + 4_346_386
    → date_of number ≡ Some (record { year = year; month = month; day = day })
unfolding date_of
date_is number year month day low civil count =
    let top : year ≤ 9999 = (let h = civil.0 in omega (arith, signed_arith)) in
    let place = day_count-day_of_year (pos year) month day civil.2.0 in
    let bound = day_of_year_bound (pos year) month day civil in
    let first = first_count in
    let rest = days_of_months (pos year) (month - 1) + (day - 1) in
    let some = civil.2.0 in
    let in_its_year : in_year 8100 1900 number ≡ Some (in_month 11 year 1 rest) =
    years_later 8100 (year - 1900) 1900 year number rest (omega arith) (omega arith) (omega arith) (omega arith) in
    let m = civil.1 in
    let d = civil.2 in
    let none : days_of_months (pos year) (1 - 1) ≡ 0 = days_of_months-zero (pos year) in
    let last : day - 1 + 1 ≡ day = omega arith in
    let in_its_month : in_month 11 year 1 rest ≡ record { year = year; month = month; day = day - 1 + 1 } =
    months_later 11 (month - 1) year 1 month rest (day - 1) (omega arith) (omega arith) (omega arith) (omega arith) (omega arith) in
    in_its_year ∙ ap Some (rw last at in_its_month)

pub date_after : (number : ℕ) → 2_958_463 < number → date_of number ≡ None
unfolding date_of
date_after number h = years_past 8100 1900 10000 number refl (let a = first_count in let b = day_count-end in omega arith)
