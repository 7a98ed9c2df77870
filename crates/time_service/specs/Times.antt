-- EFI_TIME: its sixteen bytes, and which times are valid (UEFI 2.10, section 8.3, GetTime).
use Rattle.std.specs.Prelude.{ℕ, ◌&&◌, ◌||◌, not, nat_le, nat_lt, int_lt, ℤ, pos, negsuc, Bool, List, [], ◌∷◌, ◌++◌, take, drop, slice_index, Option, Some, None, if◌then◌else◌}
use Rattle.std.specs.Int.{w16, w32, from_le_bytes, to_le_bytes, cast_signed, cast_unsigned}
use Rattle.std.specs.Ordering.{int_eq}
use Rattle.jiff_core.specs.Calendar.{days_in_month}
use Rattle.time_service.specs.declared.efi_time.EfiTime.{EfiTime}

-- the sixteen bytes: the fields in order, each with its least byte first, and one byte that means nothing behind
-- the second and one behind the daylight
unfoldable pub bytes_of : EfiTime → List ℕ
bytes_of time =
    to_le_bytes w16 time.year ++ (time.month ∷ time.day ∷ time.hour ∷ time.minute ∷ time.second ∷ 0 ∷ [])
    ++ to_le_bytes w32 time.nanosecond ++ to_le_bytes w16 (cast_unsigned w16 time.time_zone) ++ (time.daylight ∷ 0 ∷ [])

-- the fields of sixteen bytes
unfoldable pub fields_of : List ℕ → EfiTime
fields_of bytes = record {
  year = from_le_bytes w16 (take 2 bytes);
  month = slice_index bytes 2;
  day = slice_index bytes 3;
  hour = slice_index bytes 4;
  minute = slice_index bytes 5;
  second = slice_index bytes 6;
  nanosecond = from_le_bytes w32 (take 4 (drop 8 bytes));
  time_zone = cast_signed w16 (from_le_bytes w16 (take 2 (drop 12 bytes)));
  daylight = slice_index bytes 14;
}

-- the calendar has this day
abbrev pub is_date : ℕ → ℕ → ℕ → Bool
is_date year month day = nat_le 1 month && nat_le month 12 && nat_le 1 day && nat_le day (days_in_month (pos year) month)

-- a clock shows this time of day; there are no leap seconds
abbrev pub is_time_of_day : EfiTime → Bool
is_time_of_day time = nat_lt time.hour 24 && nat_lt time.minute 60 && nat_lt time.second 60 && nat_lt time.nanosecond 1_000_000_000

-- minutes from universal time, a day at most either way, or 2047 for a local time
abbrev pub is_time_zone : ℤ → Bool
is_time_zone time_zone = int_eq time_zone (pos 2047) || (not (int_lt time_zone (negsuc 1439)) && not (int_lt (pos 1440) time_zone))

-- a valid time
unfoldable pub is_valid : EfiTime → Bool
is_valid time =
    nat_le 1900 time.year && nat_le time.year 9999 && is_date time.year time.month time.day && is_time_of_day time && is_time_zone time.time_zone && nat_lt time.daylight 4

-- the time that sixteen bytes hold, where it is valid
unfoldable pub time_of : List ℕ → Option EfiTime
time_of bytes = if is_valid (fields_of bytes) then Some (fields_of bytes) else None
