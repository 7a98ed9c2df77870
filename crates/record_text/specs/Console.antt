-- Console text taken apart: the text of one unit after another.
use Rattle.std.specs.Prelude.{ℕ, zero, suc, ◌+◌, ◌-◌, ◌*◌, ◌&&◌, ◌||◌, ◌==◌, Bool, List, Option, Some, None, slice_index, length, drop, nat_le, not, if◌then◌else◌}
use Rattle.uh_base.specs.ConsoleText.{is_printable, is_surrogate}

-- a lower-case hexadecimal digit, and what it stands for
abbrev pub is_digit : ℕ → Bool
is_digit b = (nat_le 48 b && nat_le b 57) || (nat_le 97 b && nat_le b 102)

unfoldable pub digit : ℕ → ℕ
digit b = if nat_le b 57 then b - 48 else b - 87

-- four digits, and the unit that they stand for
unfoldable pub are_digits : List ℕ → Bool
are_digits text = is_digit (slice_index text 2) && (is_digit (slice_index text 3) && (is_digit (slice_index text 4) && is_digit (slice_index text 5)))

unfoldable pub unit_in : List ℕ → ℕ
unit_in text = ((digit (slice_index text 2) * 16 + digit (slice_index text 3)) * 16 + digit (slice_index text 4)) * 16 + digit (slice_index text 5)

-- \u and four digits of a unit that is neither printable nor a surrogate
unfoldable pub is_escape : List ℕ → Bool
is_escape text =
    nat_le 6 (length text) && (slice_index text 1 == 117 && (are_digits text && (not (is_printable (unit_in text)) && not (is_surrogate (unit_in text)))))

-- how many bytes the text of the first unit has; 0 where none begins
unfoldable pub unit_len : List ℕ → ℕ
unit_len text =
    if not (nat_le 1 (length text) && is_printable (slice_index text 0)) then 0
    else (if not (slice_index text 0 == 92) then 1
    else (if nat_le 2 (length text) && slice_index text 1 == 92 then 2
    else (if is_escape text then 6 else 0)))

-- what stands behind the text of the first unit
unfoldable pub behind_unit : List ℕ → Option (List ℕ)
behind_unit text = if unit_len text == 0 then None else Some (drop (unit_len text) text)

-- what stands behind the texts of so many units, as long as one begins
abbrev pub behind_more : (List ℕ → List ℕ) → List ℕ → Option (List ℕ) → List ℕ
behind_more go text None = text
behind_more go text (Some rest) = go rest

unfoldable pub behind_units : ℕ → List ℕ → List ℕ
behind_units zero text = text
behind_units (suc units) text = behind_more (λ rest. behind_units units rest) text (behind_unit text)
