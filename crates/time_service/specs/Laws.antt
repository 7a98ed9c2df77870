-- What the definitions come to.
use Rattle.std.specs.Prelude.{ℕ, ◌≡◌, ◌<◌, ◌≤◌, ◌+◌, ◌/◌, ◌↔◌, true, pos, List, Some, None}
use Rattle.time_service.specs.declared.efi_time.EfiTime.{EfiTime}
use Rattle.time_service.specs.Times.{bytes_of, time_of, is_date, is_valid}
use Rattle.time_service.specs.Days.{Date, day_number, date_of}
use Rattle.time_service.specs.Texts.{clock_of, text_of}
use Rattle.time_service.specs.Clocks.{ClockState, nanoseconds_a_day, set_to, since_midnight, moment_of}

-- A valid time is read from its own bytes.
abbrev pub ReadsBack : Type 0
ReadsBack = (time : EfiTime) → is_valid time ≡ true → time_of (bytes_of time) ≡ Some time

-- a date of the calendar from 1900 to 9999
pub record IsDate (date : Date) : Type 0 where
  pub first : 1900 ≤ date.year
  pub last : date.year ≤ 9999
  pub civil : is_date date.year date.month date.day ≡ true

-- Each date from 1900 to 9999 has one number, and each number up to that of 31 December 9999 one date.
pub record DatesAreNumbered : Type 0 where
  pub dates : (date : Date) → IsDate date → date_of (day_number date.year date.month date.day) ≡ Some date
  pub numbers : (number : ℕ) (date : Date) → date_of number ≡ Some date → IsDate date × (day_number date.year date.month date.day ≡ number)
  pub none : (number : ℕ) → date_of number ≡ None ↔ 2_958_463 < number

-- A clock shows the time that it was set to at the moment at which it was set.
abbrev pub ShowsWhatIsSet : Type 0
ShowsWhatIsSet = (now : ℕ) (time : EfiTime) → is_valid time ≡ true → moment_of (set_to now time) now ≡ Some time

-- It shows nothing exactly after 31 December 9999.
abbrev pub EndsAfter9999 : Type 0
EndsAfter9999 = (clock : ClockState) (now : ℕ) → moment_of clock now ≡ None ↔ 2_958_463 < clock.day + since_midnight clock now / nanoseconds_a_day

-- a valid local time to the second
pub record IsLocal (time : EfiTime) : Type 0 where
  pub valid : is_valid time ≡ true
  pub whole : time.nanosecond ≡ 0
  pub local : time.time_zone ≡ pos 2047
  pub plain : time.daylight ≡ 0

-- a clock that the text of such a time sets
pub record SaysTime (text : List ℕ) (clock : ClockState) : Type 0 where
  pub time : EfiTime
  pub fits : IsLocal time
  pub said : text ≡ text_of time
  pub set : clock ≡ set_to 0 time

-- The text of such a time sets the clock to it, and no other text sets a clock.
pub record TextsSet : Type 0 where
  pub written : (time : EfiTime) → IsLocal time → clock_of (text_of time) ≡ Some (set_to 0 time)
  pub only : (text : List ℕ) (clock : ClockState) → clock_of text ≡ Some clock → SaysTime text clock
