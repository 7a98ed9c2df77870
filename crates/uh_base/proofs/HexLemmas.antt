-- Hexadecimal text.
use Rattle.std.proofs.Common.{◌≡◌, ℕ, zero, suc, ◌-◌, ◌/◌, ◌%◌, ◌<◌, List, [], ◌∷◌, ◌++◌, arith, append_assoc}
use Rattle.std.specs.Str.{IsAscii, IsUtf8}
use Rattle.std.proofs.lemmas.Str.{IsUtf8-from_ascii, IsAscii-append}
use Rattle.std.proofs.lemmas.Str.Ascii.{IsAscii-nil}
use Rattle.std.proofs.lemmas.Bool.Decides.{nat_tests}
use Rattle.uh_base.specs.Hex.{hex_digits, hex_digit}

pub hex_more : (text : List ℕ) (count n : ℕ) → 0 < count → (text ++ hex_digits (count - 1) (n / 16)) ++ hex_digit (n % 16) ∷ [] ≡ text ++ hex_digits count n
unfolding hex_digits
hex_more text zero n h = absurd (omega arith)
hex_more text (suc k) n h =
    let e : suc k - 1 ≡ k = omega arith in
    rw e (append_assoc text (hex_digits k (n / 16)) (hex_digit (n % 16) ∷ []))

-- hexadecimal digits are text
small : (d : ℕ) → d < 16 → IsAscii (hex_digit d ∷ [])
small d h zero = grind (arith, nat_tests, h)
small d h (suc i) = omega arith

hex_is_ascii : (count n : ℕ) → IsAscii (hex_digits count n)
unfolding hex_digits
hex_is_ascii zero n = IsAscii-nil
hex_is_ascii (suc count) n = IsAscii-append (hex_digits count (n / 16)) (hex_digit (n % 16) ∷ []) (hex_is_ascii count (n / 16)) (small (n % 16) (omega arith))

pub hex_is_text : (count n : ℕ) → IsUtf8 (hex_digits count n)
hex_is_text count n = IsUtf8-from_ascii (hex_digits count n) (hex_is_ascii count n)
