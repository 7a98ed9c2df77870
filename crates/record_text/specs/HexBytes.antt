-- Bytes in text: two hexadecimal digits in lower case for each.
use Rattle.std.specs.Prelude.{ℕ, ◌≤◌, ◌<◌, length, slice_index, ◌+◌, ◌*◌, ◌&&◌, ◌++◌, List, [], ◌∷◌, Option, Some, None, option_and_then, if◌then◌else◌}
use Rattle.uh_base.specs.Hex.{hex_digits}
use Rattle.record_text.specs.Console.{is_digit, digit}

unfoldable pub bytes_text : List ℕ → List ℕ
bytes_text [] = []
bytes_text (byte ∷ bytes) = hex_digits 2 byte ++ bytes_text bytes

-- the byte of two digits
abbrev pub byte_of : ℕ → ℕ → Option ℕ
byte_of high low = if is_digit high && is_digit low then Some (digit high * 16 + digit low) else None

-- the bytes of a text, behind those before
unfoldable pub bytes_from : List ℕ → List ℕ → Option (List ℕ)
bytes_from before [] = Some before
bytes_from before (high ∷ []) = None
bytes_from before (high ∷ low ∷ text) = option_and_then (λ byte. bytes_from (before ++ byte ∷ []) text) (byte_of high low)

-- the bytes of a text
unfoldable pub bytes_of : List ℕ → Option (List ℕ)
bytes_of text = bytes_from [] text

-- Each is a byte.
abbrev pub AreBytes : List ℕ → Type 0
AreBytes bytes = (i : ℕ) → slice_index bytes i < 256

-- one byte or more
abbrev pub AreSome : List ℕ → Type 0
AreSome bytes = AreBytes bytes × (1 ≤ length bytes)
