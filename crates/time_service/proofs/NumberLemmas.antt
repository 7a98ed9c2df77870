-- The dates that day numbers have.
use Rattle.std.proofs.Common.{◌≡◌, ℕ, zero, suc, ◌+◌, ◌-◌, ◌<◌, ◌≤◌, refl, sym, ap, subst, arith, Bool, true, false, pos}
use Rattle.std.specs.Prelude.{nat_lt, Option, Some, None, if◌then◌else◌, ◌↔◌}
use Rattle.std.proofs.lemmas.Bool.Decides.{nat_tests}
use Rattle.jiff_core.specs.Calendar.{days_in_month, days_in_year, days_of_months, day_count, IsCivilDate}
use Rattle.jiff_core.proofs.SignedLemmas.{signed_arith}
use Rattle.jiff_core.proofs.CalendarLemmas.{days_of_months-zero, days_of_months_more, days_of_months_all, day_count-day_of_year, day_count-end}
use Rattle.time_service.specs.Days.{Date, day_number, in_month, in_year, date_of}
use Rattle.time_service.specs.Laws.{IsDate}
use Rattle.time_service.proofs.DayLemmas.{first_count, next_year, date_after}
use Rattle.time_service.proofs.TimeLemmas.{date_of_civil}

-- a day of a year from a month on, so many days after that month's first
record InMonths (year month days : ℕ) (date : Date) : Type 0 where
  pub year_is : date.year ≡ year
  pub low : month ≤ date.month
  pub high : date.month ≤ 12
  pub first : 1 ≤ date.day
  pub last : date.day ≤ days_in_month (pos year) date.month
  pub place : days_of_months (pos year) (date.month - 1) + date.day ≡ days_of_months (pos year) (month - 1) + days + 1

in_months : (more year month days : ℕ) → 1 ≤ month → month + more ≡ 12 → days_of_months (pos year) (month - 1) + days < days_of_months (pos year) 12 → InMonths year month days (in_month more year month days)
unfolding in_month
in_months zero year month days low e short =
    let next = days_of_months_more (pos year) month low in
    let same : month ≡ 12 = omega arith in
    let top : days_of_months (pos year) month ≡ days_of_months (pos year) 12 = ap (days_of_months (pos year)) same in
    record { year_is = refl; low = omega arith; high = omega arith; first = omega arith; last = omega arith; place = omega arith }
in_months (suc more) year month days low e short =
    let next = days_of_months_more (pos year) month low in
    let back : month + 1 - 1 ≡ month = omega arith in
    by (nat_lt days (days_in_month (pos year) month)) refl
    (λ long. in_months more year (month + 1) (days - days_in_month (pos year) month) (omega arith) (omega arith) (rw back (omega arith)))
  where
    by : (b : Bool) → nat_lt days (days_in_month (pos year) month) ≡ b
        → (days_in_month (pos year) month ≤ days → InMonths year (month + 1) (days - days_in_month (pos year) month) (in_month more year (month + 1) (days - days_in_month (pos year) month)))
        → InMonths year month days
        (if b then record { year = year; month = month; day = days + 1 } else in_month more year (month + 1) (days - days_in_month (pos year) month))
    by true h rest =
        let under : days < days_in_month (pos year) month = grind (arith, nat_tests) in
        record { year_is = refl; low = omega arith; high = omega arith; first = omega arith; last = omega arith; place = omega arith }
    by false h rest =
        let over : days_in_month (pos year) month ≤ days = grind (arith, nat_tests) in
        let r = rest over in
        let next = days_of_months_more (pos year) month low in
        let back : month + 1 - 1 ≡ month = omega arith in
        let place = rw back at r.place in
        let l = r.low in
        record { year_is = r.year_is; low = omega arith; high = r.high; first = r.first; last = r.last; place = omega arith }

-- a day from a year on and before another, so many days after that year's first
record InYears (year top days : ℕ) (date : Date) : Type 0 where
  pub low : year ≤ date.year
  pub high : date.year < top
  pub some : 1 ≤ date.month
  pub most : date.month ≤ 12
  pub first : 1 ≤ date.day
  pub last : date.day ≤ days_in_month (pos date.year) date.month
  pub count : day_count (pos date.year) date.month date.day ≡ days + day_count (pos year) 1 1

abbrev Answers : ℕ → ℕ → ℕ → Option Date → Type 0
Answers year top days None = day_count (pos top) 1 1 ≤ days + day_count (pos year) 1 1
Answers year top days (Some date) = InYears year top days date

-- the first year's own
here : (year top days : ℕ) (date : Date) → year < top → InMonths year 1 days date → InYears year top days date
here year top days date h m =
    let same = m.year_is in
    let back = sym m.year_is in
    let none : days_of_months (pos year) (1 - 1) ≡ 0 = days_of_months-zero (pos year) in
    let place = m.place in
    let first = m.first in
    record {
      low = omega arith;
      high = omega arith;
      some = m.low;
      most = m.high;
      first = m.first;
      last = rw same m.last;
      count = rw same (omega (arith, day_count-day_of_year (pos year) date.month date.day first));
    }

later : (year top days n : ℕ) (o : Option Date) → n ≤ days → day_count (pos (year + 1)) 1 1 ≡ day_count (pos year) 1 1 + n → Answers (year + 1) top (days - n) o → Answers year top days o
later year top days n None h e a = omega arith
later year top days n (Some date) h e a =
    let low = a.low in
    let count = a.count in
    record { low = omega arith; high = a.high; some = a.some; most = a.most; first = a.first; last = a.last; count = omega arith }

answers : (more year top days : ℕ) → top ≡ year + more → Answers year top days (in_year more year days)
unfolding in_year
answers zero year top days e = let same : top ≡ year = omega arith in rw same (omega arith)
answers (suc more) year top days e = by (nat_lt days (days_in_year (pos year))) refl (answers more (year + 1) top (days - days_in_year (pos year)) (omega arith))
  where
    by : (b : Bool) → nat_lt days (days_in_year (pos year)) ≡ b → Answers (year + 1) top (days - days_in_year (pos year)) (in_year more (year + 1) (days - days_in_year (pos year)))
        → Answers year top days (if b then Some (in_month 11 year 1 days) else in_year more (year + 1) (days - days_in_year (pos year)))
    by true h rest =
        let under : days < days_in_year (pos year) = grind (arith, nat_tests) in
        let none : days_of_months (pos year) (1 - 1) ≡ 0 = days_of_months-zero (pos year) in
        here year top days (in_month 11 year 1 days) (omega arith) (in_months 11 year 1 days (omega arith) refl (omega (arith, days_of_months_all (pos year))))
    by false h rest =
        let over : days_in_year (pos year) ≤ days = grind (arith, nat_tests) in
        later year top days (days_in_year (pos year)) _ over (next_year year) rest

date_answers : (number : ℕ) → Answers 1900 10000 number (date_of number)
unfolding date_of
date_answers number = answers 8100 1900 10000 number refl

pub numbered : (number : ℕ) (date : Date) → date_of number ≡ Some date → IsDate date × (day_number date.year date.month date.day ≡ number)
unfolding day_number
numbered number date e =
    let r : InYears 1900 10000 number date = subst (Answers 1900 10000 number) e (date_answers number) in
    let high = r.high in
    let low = r.low in
    let count = r.count in
    let civil : IsCivilDate (pos date.year) date.month date.day = ((omega (arith, signed_arith), omega (arith, signed_arith)), (r.some, r.most), (r.first, r.last)) in
    (record { first = r.low; last = omega arith; civil = date_of_civil date.year date.month date.day civil }, omega arith)

pub end_is : (number : ℕ) → date_of number ≡ None ↔ 2_958_463 < number
end_is number = (
  (λ e. let r : day_count (pos 10000) 1 1 ≤ number + day_count (pos 1900) 1 1 = subst (Answers 1900 10000 number) e (date_answers number) in
      let a = first_count in let b = day_count-end in omega arith),
  (λ h. date_after number h),
)
