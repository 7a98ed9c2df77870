-- The clock: a moment that was set, and the moments after it (UEFI 2.10, section 8.3, GetTime and SetTime).
use Rattle.std.specs.Prelude.{ℕ, ◌≡◌, ◌<◌, ◌+◌, ◌-◌, ◌*◌, ◌/◌, ◌%◌, true, ℤ, Option, option_map}
use Rattle.time_service.specs.declared.efi_time.EfiTime.{EfiTime}
use Rattle.time_service.specs.Times.{is_time_zone}
use Rattle.time_service.specs.Days.{Date, day_number, date_of}

-- the moment that was set last, the time zone and the daylight that were set with it, and the time of the host, in units
-- of 100 nanoseconds, at which it was set
pub record ClockState : Type 0 where
  pub day : ℕ
  pub nanosecond : ℕ
  pub time_zone : ℤ
  pub daylight : ℕ
  pub set_at : ℕ

abbrev pub nanoseconds_a_day : ℕ
nanoseconds_a_day = 86_400_000_000_000

-- what is so of every clock
pub record IsClock (clock : ClockState) : Type 0 where
  pub day : clock.day < 2_958_464
  pub nanosecond : clock.nanosecond < nanoseconds_a_day
  pub time_zone : is_time_zone clock.time_zone ≡ true
  pub daylight : clock.daylight < 4

-- nanoseconds since midnight
abbrev pub nanosecond_of : EfiTime → ℕ
nanosecond_of time = (time.hour * 3600 + time.minute * 60 + time.second) * 1_000_000_000 + time.nanosecond

-- the clock that a time was set to
unfoldable pub set_to : ℕ → EfiTime → ClockState
set_to now time = record {
  day = day_number time.year time.month time.day;
  nanosecond = nanosecond_of time;
  time_zone = time.time_zone;
  daylight = time.daylight;
  set_at = now;
}

-- how many nanoseconds after the midnight that began the day of the clock: a unit of time is 100 nanoseconds
unfoldable pub since_midnight : ClockState → ℕ → ℕ
since_midnight clock now = clock.nanosecond + 100 * (now - clock.set_at)

-- a date and a time of that day, in the time zone and with the daylight of the clock
abbrev pub time_on : ClockState → ℕ → Date → EfiTime
time_on clock nanosecond date = record {
  year = date.year;
  month = date.month;
  day = date.day;
  hour = nanosecond / 3_600_000_000_000;
  minute = nanosecond / 60_000_000_000 % 60;
  second = nanosecond / 1_000_000_000 % 60;
  nanosecond = nanosecond % 1_000_000_000;
  time_zone = clock.time_zone;
  daylight = clock.daylight;
}

-- what a clock shows: there is nothing after 9999
unfoldable pub moment_of : ClockState → ℕ → Option EfiTime
moment_of clock now =
    option_map (time_on clock (since_midnight clock now % nanoseconds_a_day)) (date_of (clock.day + since_midnight clock now / nanoseconds_a_day))
