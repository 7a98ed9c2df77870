-- Days by their number from 1 January 1900 on, which is day 0, to 31 December 9999.
use Rattle.std.specs.Prelude.{ℕ, zero, suc, ◌+◌, ◌-◌, nat_lt, pos, Option, Some, None, if◌then◌else◌}
use Rattle.jiff_core.specs.Calendar.{days_in_month, days_in_year, day_count}

pub record Date : Type 0 where
  pub year : ℕ
  pub month : ℕ
  pub day : ℕ

-- how many days lie between 1 January 1900 and a date
unfoldable pub day_number : ℕ → ℕ → ℕ → ℕ
day_number year month day = day_count (pos year) month day - day_count (pos 1900) 1 1

-- the day so many days after the first of a month, at most so many months later
unfoldable pub in_month : ℕ → ℕ → ℕ → ℕ → Date
in_month zero year month days = record { year = year; month = month; day = days + 1 }
in_month (suc more) year month days =
    if nat_lt days (days_in_month (pos year) month) then record { year = year; month = month; day = days + 1 }
    else in_month more year (month + 1) (days - days_in_month (pos year) month)

-- the day so many days after 1 January of a year, where it is in that year or one of so many years after it
unfoldable pub in_year : ℕ → ℕ → ℕ → Option Date
in_year zero year days = None
in_year (suc more) year days =
    if nat_lt days (days_in_year (pos year)) then Some (in_month 11 year 1 days)
    else in_year more (year + 1) (days - days_in_year (pos year))

-- the date of a day number: there is none after 9999
unfoldable pub date_of : ℕ → Option Date
date_of days = in_year 8100 1900 days
