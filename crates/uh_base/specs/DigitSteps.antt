-- Digits read one after another.
use Rattle.std.specs.Prelude.{ℕ, ◌+◌, ◌*◌, ◌^◌, nat_lt, List, [], ◌∷◌, Option, Some, None, if◌then◌else◌}
use Rattle.uh_base.specs.Numbers.{digit_value}

-- a number below 2^64
abbrev pub below_64 : ℕ → Option ℕ
below_64 n = if nat_lt n (2 ^ 64) then Some n else None

-- a number with one more digit behind it, and with all that follow
abbrev pub joined : ℕ → ℕ → ℕ → Option ℕ
joined base n b = if nat_lt (digit_value b) base then below_64 (n * base + digit_value b) else None

abbrev pub digits_from : ℕ → Option ℕ → List ℕ → Option ℕ
digits_from base None bytes = None
digits_from base (Some n) [] = Some n
digits_from base (Some n) (b ∷ bytes) = digits_from base (joined base n b) bytes
