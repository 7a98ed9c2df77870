-- Number texts: decimal digits without a needless leading 0, or 0x and 1 to 16 hexadecimal digits.
use Rattle.std.specs.Prelude.{ℕ, ◌+◌, ◌-◌, ◌*◌, ◌^◌, ◌&&◌, ◌==◌, slice_index, drop, length, nat_le, nat_lt, not, Bool, List, [], ◌∷◌, Option, Some, None, if◌then◌else◌}
use Rattle.std.specs.List.{list_all}

-- what a digit stands for, a letter of either case; 16 for a byte that is no digit
unfoldable pub digit_value : ℕ → ℕ
digit_value b =
    if nat_le 48 b && nat_le b 57 then b - 48
    else (if nat_le 97 b && nat_le b 102 then b - 87
    else (if nat_le 65 b && nat_le b 70 then b - 55 else 16))

-- All bytes are digits of the base.
abbrev pub are_digits : ℕ → List ℕ → Bool
are_digits base bytes = list_all (λ b. nat_lt (digit_value b) base) bytes

-- what digits stand for, the greatest first
abbrev pub value_of : ℕ → List ℕ → ℕ
value_of base [] = 0
value_of base (b ∷ bytes) = digit_value b * base ^ length bytes + value_of base bytes

-- the number of digits of a base, below 2^64
unfoldable pub digits_number : ℕ → List ℕ → Option ℕ
digits_number base bytes = if are_digits base bytes && nat_lt (value_of base bytes) (2 ^ 64) then Some (value_of base bytes) else None

-- a 0 before further digits
abbrev pub has_needless_zero : List ℕ → Bool
has_needless_zero bytes = nat_lt 1 (length bytes) && slice_index bytes 0 == 48

abbrev pub decimal_number : List ℕ → Option ℕ
decimal_number bytes = if nat_le 1 (length bytes) && not (has_needless_zero bytes) then digits_number 10 bytes else None

abbrev pub hexadecimal_number : List ℕ → Option ℕ
hexadecimal_number digits = if nat_le 1 (length digits) && nat_le (length digits) 16 then digits_number 16 digits else None

-- 0x stands in front
abbrev pub is_prefixed : List ℕ → Bool
is_prefixed bytes = nat_le 2 (length bytes) && (slice_index bytes 0 == 48 && slice_index bytes 1 == 120)

-- the number of a number text
unfoldable pub number_of : List ℕ → Option ℕ
number_of bytes = if is_prefixed bytes then hexadecimal_number (drop 2 bytes) else decimal_number bytes
