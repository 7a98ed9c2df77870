-- Texts of a local date and time of day, as `2024-01-01T00:00:00` (ISO 8601, the extended form to the second).
use Rattle.std.specs.Prelude.{ℕ, ◌+◌, ◌*◌, ◌/◌, ◌%◌, ◌==◌, ◌&&◌, nat_le, pos, Bool, true, false, List, [], ◌∷◌, codes, slice_index, Option, Some, None, if◌then◌else◌}
use Rattle.time_service.specs.declared.efi_time.EfiTime.{EfiTime}
use Rattle.time_service.specs.Times.{is_valid}
use Rattle.time_service.specs.Clocks.{ClockState, set_to}

-- a character stands where a form has it: the form's `0` stands for any digit
abbrev pub fits_character : ℕ → ℕ → Bool
fits_character form character = if form == 48 then nat_le 48 character && nat_le character 57 else character == form

-- each character of a text stands where a form has it
unfoldable pub fits_form : List ℕ → List ℕ → Bool
fits_form [] [] = true
fits_form [] (character ∷ characters) = false
fits_form (form ∷ forms) [] = false
fits_form (form ∷ forms) (character ∷ characters) = fits_character form character && fits_form forms characters

-- the number of two digits: the low four bits of a digit's character are its value
abbrev pub two_digits : List ℕ → ℕ → ℕ
two_digits text at = slice_index text at % 16 * 10 + slice_index text (at + 1) % 16

-- the time that a text in the form says
unfoldable pub time_in : List ℕ → EfiTime
time_in text = record {
  year = two_digits text 0 * 100 + two_digits text 2;
  month = two_digits text 5;
  day = two_digits text 8;
  hour = two_digits text 11;
  minute = two_digits text 14;
  second = two_digits text 17;
  nanosecond = 0;
  time_zone = pos 2047;
  daylight = 0;
}

-- the clock that a text sets: one in the form, with a valid time, from 1900 on
unfoldable pub clock_of : List ℕ → Option ClockState
clock_of text =
    if fits_form (codes "0000-00-00T00:00:00") text && is_valid (time_in text) then Some (set_to 0 (time_in text)) else None

-- the character of a number's last digit, and its last two
abbrev pub digit : ℕ → ℕ
digit n = 48 + n % 10

abbrev pub two : ℕ → List ℕ → List ℕ
two n rest = digit (n / 10) ∷ digit n ∷ rest

-- the text of a time
unfoldable pub text_of : EfiTime → List ℕ
text_of time = two (time.year / 100) (two time.year (45 ∷ two time.month (45 ∷ two time.day (84 ∷ two time.hour (58 ∷ two time.minute (58 ∷ two time.second []))))))
