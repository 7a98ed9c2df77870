-- What a valid time has, and what a clock shows.
use Rattle.std.proofs.Common.{◌≡◌, ℕ, ◌+◌, ◌-◌, ◌*◌, ◌/◌, ◌%◌, ◌<◌, ◌≤◌, refl, sym, ap, ◌∙◌, arith, Bool, true, false, ℤ, pos, FitsSigned, to_z, of_z, w16}
use Rattle.std.specs.Prelude.{nat_lt, nat_le, ◌&&◌, Option, Some, None, option_map}
use Rattle.std.proofs.lemmas.Bool.Decides.{nat_tests}
use Rattle.std.proofs.lemmas.Int.{ints, to_z-of_z}
use Rattle.jiff_core.specs.Calendar.{IsCivilDate}
use Rattle.jiff_core.proofs.SignedLemmas.{signed_arith}
use Rattle.time_service.specs.declared.efi_time.EfiTime.{EfiTime}
use Rattle.time_service.specs.Times.{is_date, is_time_zone, is_valid}
use Rattle.time_service.specs.Days.{Date, date_of}
use Rattle.time_service.specs.Clocks.{ClockState, nanoseconds_a_day, since_midnight, IsClock, time_on, moment_of}

pub and_true : (a b : Bool) → (a && b) ≡ true → (a ≡ true) × (b ≡ true)
and_true true b h = (refl, h)
and_true false b h = absurd (cc)

pub and_both : (a b : Bool) → a ≡ true → b ≡ true → (a && b) ≡ true
and_both true b h k = k
and_both false b h k = absurd (cc)

under : (a b : ℕ) → nat_lt a b ≡ true → a < b
under a b h = grind (arith, nat_tests)

most : (a b : ℕ) → nat_le a b ≡ true → a ≤ b
most a b h = grind (arith, nat_tests)

is_under : (a b : ℕ) → a < b → nat_lt a b ≡ true
is_under a b h = grind (arith, nat_tests)

pub is_most : (a b : ℕ) → a ≤ b → nat_le a b ≡ true
is_most a b h = grind (arith, nat_tests)

-- what a valid time has
pub record IsTime (time : EfiTime) : Type 0 where
  pub first : 1900 ≤ time.year
  pub last : time.year ≤ 9999
  pub civil : is_date time.year time.month time.day ≡ true
  pub hour : time.hour < 24
  pub minute : time.minute < 60
  pub second : time.second < 60
  pub nanosecond : time.nanosecond < 1_000_000_000
  pub time_zone : is_time_zone time.time_zone ≡ true
  pub daylight : time.daylight < 4

pub parts_of : (time : EfiTime) → is_valid time ≡ true → IsTime time
unfolding is_valid
parts_of time h =
    let p = and_true _ _ h in
    let q = and_true _ _ p.0 in
    let r = and_true _ _ q.0 in
    let s = and_true _ _ r.0 in
    let y = and_true _ _ s.0 in
    let t = and_true _ _ r.1 in
    let u = and_true _ _ t.0 in
    let v = and_true _ _ u.0 in
    record {
      first = most _ _ y.0;
      last = most _ _ y.1;
      civil = s.1;
      hour = under _ _ v.0;
      minute = under _ _ v.1;
      second = under _ _ u.1;
      nanosecond = under _ _ t.1;
      time_zone = q.1;
      daylight = under _ _ p.1;
    }

pub is_time : (time : EfiTime) → IsTime time → is_valid time ≡ true
unfolding is_valid
is_time time p =
    and_both _ _ (and_both _ _ (and_both _ _ (and_both _ _ (and_both _ _ (is_most _ _ p.first) (is_most _ _ p.last)) p.civil)
    (and_both _ _ (and_both _ _ (and_both _ _ (is_under _ _ p.hour) (is_under _ _ p.minute)) (is_under _ _ p.second)) (is_under _ _ p.nanosecond))) p.time_zone) (is_under _ _ p.daylight)

-- dates by tests and by facts
pub civil_of : (year month day : ℕ) → year ≤ 9999 → is_date year month day ≡ true → IsCivilDate (pos year) month day
civil_of year month day last h =
    let p = and_true _ _ h in
    let q = and_true _ _ p.0 in
    let r = and_true _ _ q.0 in
    ((omega (arith, signed_arith), omega (arith, signed_arith)), (most _ _ r.0, most _ _ r.1), (most _ _ q.1, most _ _ p.1))

pub date_of_civil : (year month day : ℕ) → IsCivilDate (pos year) month day → is_date year month day ≡ true
date_of_civil year month day c =
    and_both _ _ (and_both _ _ (and_both _ _ (is_most _ _ c.1.0) (is_most _ _ c.1.1)) (is_most _ _ c.2.0)) (is_most _ _ c.2.1)

pub time_zone_fits : (time_zone : ℤ) → is_time_zone time_zone ≡ true → FitsSigned w16 time_zone
time_zone_fits time_zone h = grind (arith, ints)

-- the parts of a day
abbrev pub parts : Date → ℕ × ℕ × ℕ
parts date = (date.year, date.month, date.day)

some_date : (year month day : ℕ) (o : Option Date) → Some (year, month, day) ≡ option_map parts o → o ≡ Some (record { year = year; month = month; day = day })
some_date year month day None h = absurd (cc)
some_date year month day (Some date) h =
    let t : ℕ × ℕ × ℕ = (year, month, day) in
    let u : ℕ × ℕ × ℕ = (date.year, date.month, date.day) in
    let p : t ≡ u = cc in
    let y = ap (λ x. x.0) p in
    let m = ap (λ x. x.1) p in
    let d = ap (λ x. x.2) p in
    rw (y, m, d) refl

no_date : (o : Option Date) → None ≡ option_map parts o → o ≡ None
no_date None h = refl
no_date (Some date) h = absurd (cc)

pub shown : (clock : ClockState) (now number year month day nanosecond : ℕ) (time : EfiTime)
    → number ≡ clock.day + since_midnight clock now / nanoseconds_a_day → nanosecond ≡ since_midnight clock now % nanoseconds_a_day
    → Some (year, month, day) ≡ option_map parts (date_of number) → time ≡ time_on clock nanosecond (record { year = year; month = month; day = day })
    → Some time ≡ moment_of clock now
unfolding moment_of
shown clock now number year month day nanosecond time is at date e =
    let there : date_of (clock.day + since_midnight clock now / nanoseconds_a_day) ≡ Some (record { year = year; month = month; day = day }) =
    ap date_of (sym is) ∙ some_date year month day (date_of number) date in
    rw (there, ← at) (ap Some e)

pub not_shown : (clock : ClockState) (now number : ℕ) → number ≡ clock.day + since_midnight clock now / nanoseconds_a_day → None ≡ option_map parts (date_of number) → None ≡ moment_of clock now
unfolding moment_of
not_shown clock now number is none =
    let there : date_of (clock.day + since_midnight clock now / nanoseconds_a_day) ≡ None = ap date_of (sym is) ∙ no_date (date_of number) none in
    rw there refl

-- a time on a day of the clock is valid
pub shown_is_valid : (clock : ClockState) (nanosecond : ℕ) (date : Date) (time : EfiTime) → time ≡ time_on clock nanosecond date → nanosecond < nanoseconds_a_day
    → 1900 ≤ date.year → date.year ≤ 9999 → is_date date.year date.month date.day ≡ true → is_time_zone clock.time_zone ≡ true → clock.daylight < 4 → is_valid time ≡ true
shown_is_valid clock nanosecond date time e short first last civil time_zone daylight =
    rw e (is_time (time_on clock nanosecond date) (record {
      first = first;
      last = last;
      civil = civil;
      hour = omega arith;
      minute = omega arith;
      second = omega arith;
      nanosecond = omega arith;
      time_zone = time_zone;
      daylight = daylight;
    }))

-- the clock that a valid time is set to
pub is_clock : (time : EfiTime) (day hour minute second nanosecond now : ℕ) → is_valid time ≡ true → day < 2_958_464
    → hour ≡ time.hour → minute ≡ time.minute → second ≡ time.second → nanosecond ≡ time.nanosecond
    → IsClock (record { day = day; nanosecond = (hour * 3600 + minute * 60 + second) * 1_000_000_000 + nanosecond; time_zone = to_z w16 (of_z w16 time.time_zone); daylight = time.daylight; set_at = now })
is_clock time day hour minute second nanosecond now valid low a b c d =
    let p = parts_of time valid in
    let h = p.hour in
    let m = p.minute in
    let s = p.second in
    let n = p.nanosecond in
    let same = to_z-of_z w16 time.time_zone (time_zone_fits time.time_zone p.time_zone) in
    record { day = low; nanosecond = omega arith; time_zone = rw same p.time_zone; daylight = p.daylight }

module _ (clock : ClockState) (now a b : ℕ) (first : a ≡ clock.nanosecond) (passed : b ≡ now - clock.set_at) where
  pub number_shown : (d : ℕ) → d ≡ clock.day → d + (a + 100 * b) / nanoseconds_a_day ≡ clock.day + since_midnight clock now / nanoseconds_a_day
  unfolding since_midnight
  number_shown d e = rw (e, first, passed) refl

  pub rest_shown : (a + 100 * b) % nanoseconds_a_day ≡ since_midnight clock now % nanoseconds_a_day
  unfolding since_midnight
  rest_shown = rw (first, passed) refl
