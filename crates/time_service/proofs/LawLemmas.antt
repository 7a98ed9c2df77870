-- What the definitions come to.
use Rattle.std.proofs.Common.{◌≡◌, ℕ, ◌+◌, ◌-◌, ◌/◌, ◌%◌, ◌^◌, ◌<◌, refl, ap, ◌∙◌, arith, true, ℤ, pos, FitsSigned}
use Rattle.std.specs.Prelude.{Option, Some, None, option_map, ◌↔◌}
use Rattle.std.proofs.lemmas.Nat.{from_le_bytes-to_le_bytes_2, from_le_bytes-to_le_bytes_4}
use Rattle.std.proofs.Math.Facts.{Fits-of_z}
use Rattle.std.proofs.lemmas.Int.{to_z-of_z}
use Rattle.std.specs.Int.{w16, cast_signed, cast_unsigned}
use Rattle.jiff_core.specs.Calendar.{day_count}
use Rattle.time_service.specs.declared.efi_time.EfiTime.{EfiTime}
use Rattle.time_service.specs.Times.{bytes_of, fields_of, time_of, is_valid}
use Rattle.time_service.specs.Days.{Date, day_number, date_of}
use Rattle.time_service.specs.Clocks.{ClockState, nanoseconds_a_day, nanosecond_of, set_to, since_midnight, time_on, moment_of}
use Rattle.time_service.specs.Laws.{IsDate}
use Rattle.time_service.proofs.DayLemmas.{first_count, date_is}
use Rattle.time_service.proofs.CodeLemmas.{first_enough}
use Rattle.time_service.proofs.NumberLemmas.{end_is}
use Rattle.time_service.proofs.TimeLemmas.{IsTime, parts_of, civil_of, time_zone_fits}

-- a time by its fields
pub same_time : (time : EfiTime) (year month day hour minute second nanosecond : ℕ) (time_zone : ℤ) (daylight : ℕ)
    → year ≡ time.year → month ≡ time.month → day ≡ time.day → hour ≡ time.hour → minute ≡ time.minute → second ≡ time.second → nanosecond ≡ time.nanosecond → time_zone ≡ time.time_zone → daylight ≡ time.daylight
    → record { year = year; month = month; day = day; hour = hour; minute = minute; second = second; nanosecond = nanosecond; time_zone = time_zone; daylight = daylight } ≡ time
same_time time year month day hour minute second nanosecond time_zone daylight a b c d e f g h i = rw (a, b, c, d, e, f, g, h, i) refl

of_z_lt : (time_zone : ℤ) → FitsSigned w16 time_zone → cast_unsigned w16 time_zone < 2 ^ 16
of_z_lt time_zone fits = omega (arith, Fits-of_z fits)

fields_back : (time : EfiTime) → IsTime time → fields_of (bytes_of time) ≡ time
unfolding fields_of bytes_of
fields_back time p =
    let l = p.last in
    let n = p.nanosecond in
    same_time time _ _ _ _ _ _ _ _ _ (from_le_bytes-to_le_bytes_2 time.year (omega arith)) refl refl refl refl refl (from_le_bytes-to_le_bytes_4 time.nanosecond (omega arith)) (ap (cast_signed w16) (from_le_bytes-to_le_bytes_2 (cast_unsigned w16 time.time_zone) (of_z_lt time.time_zone (time_zone_fits time.time_zone p.time_zone))) ∙ to_z-of_z w16 time.time_zone (time_zone_fits time.time_zone p.time_zone)) refl

pub reads_back : (time : EfiTime) → is_valid time ≡ true → time_of (bytes_of time) ≡ Some time
unfolding time_of
reads_back time valid = rw (fields_back time (parts_of time valid), valid) refl

-- the clock at the moment at which it was set
since_set : (now : ℕ) (time : EfiTime) → since_midnight (set_to now time) now ≡ nanosecond_of time
unfolding since_midnight set_to
since_set now time = let none : now - now ≡ 0 = omega arith in rw none (omega arith)

number_set : (now : ℕ) (time : EfiTime) → (set_to now time).day ≡ day_number time.year time.month time.day
unfolding set_to
number_set now time = refl

time_zone_set : (now : ℕ) (time : EfiTime) → (set_to now time).time_zone ≡ time.time_zone
unfolding set_to
time_zone_set now time = refl

daylight_set : (now : ℕ) (time : EfiTime) → (set_to now time).daylight ≡ time.daylight
unfolding set_to
daylight_set now time = refl

pub dated : (date : Date) → IsDate date → date_of (day_number date.year date.month date.day) ≡ Some date
unfolding day_number
dated date is =
    let low = is.first in
    let civil = civil_of date.year date.month date.day is.last is.civil in
    let enough = first_enough date.year date.month date.day is.first civil in
    let count : day_count (pos date.year) date.month date.day ≡ day_count (pos date.year) date.month date.day - day_count (pos 1900) 1 1 + 4_346_386 = omega (arith, enough, first_count) in
    date_is (day_count (pos date.year) date.month date.day - day_count (pos 1900) 1 1) date.year date.month date.day is.first civil count

pub shows_what_is_set : (now : ℕ) (time : EfiTime) → is_valid time ≡ true → moment_of (set_to now time) now ≡ Some time
unfolding moment_of
shows_what_is_set now time valid =
    let p = parts_of time valid in
    let h = p.hour in
    let m = p.minute in
    let s = p.second in
    let n = p.nanosecond in
    let since = since_set now time in
    let whole : nanosecond_of time / nanoseconds_a_day ≡ 0 = omega arith in
    let rest : nanosecond_of time % nanoseconds_a_day ≡ nanosecond_of time = omega arith in
    let there : (set_to now time).day + nanosecond_of time / nanoseconds_a_day ≡ day_number time.year time.month time.day = rw (whole, number_set now time) (omega arith) in
    let date = dated (record { year = time.year; month = time.month; day = time.day }) (record { first = p.first; last = p.last; civil = p.civil }) in
    rw (since, there, date, rest)
    (ap Some (same_time time _ _ _ _ _ _ _ _ _ refl refl refl (omega arith) (omega arith) (omega arith) (omega arith) (time_zone_set now time) (daylight_set now time)))

mapped : (clock : ClockState) (n : ℕ) (o : Option Date) → (option_map (time_on clock n) o ≡ None → o ≡ None) × (o ≡ None → option_map (time_on clock n) o ≡ None)
mapped clock n None = (λ _. refl, λ _. refl)
mapped clock n (Some date) = (λ e. absurd (cc), λ e. absurd (cc))

pub ends_after_9999 : (clock : ClockState) (now : ℕ) → moment_of clock now ≡ None ↔ 2_958_463 < clock.day + since_midnight clock now / nanoseconds_a_day
unfolding moment_of
ends_after_9999 clock now =
    let number = clock.day + since_midnight clock now / nanoseconds_a_day in
    let m = mapped clock (since_midnight clock now % nanoseconds_a_day) (date_of number) in
    let e = end_is number in
    (λ none. e.0 (m.0 none), λ over. m.1 (e.1 over))
