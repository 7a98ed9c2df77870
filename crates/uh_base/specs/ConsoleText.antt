-- The text of 16-bit units that a guest prints: UEFI 2.10, 12.4 (OutputString).
use Rattle.std.specs.Prelude.{◌≡◌, ◌<◌, ◌≤◌, ◌^◌, ◌&&◌, ◌==◌, ◌++◌, ℕ, Bool, List, [], ◌∷◌, length, All, nat_le, if◌then◌else◌}
use Rattle.uh_base.specs.Hex.{hex_digits}

-- units that stand for themselves, but for the backslash
abbrev pub is_printable : ℕ → Bool
is_printable unit = nat_le 0x20 unit && nat_le unit 0x7e

-- halves of a pair of units, which have no text
abbrev pub is_surrogate : ℕ → Bool
is_surrogate unit = nat_le 0xd800 unit && nat_le unit 0xdfff

-- the text of one unit: two backslashes for one, \u and four hexadecimal digits for one that isn't printable
unfoldable pub unit_text : ℕ → List ℕ
unit_text unit =
    if unit == 92 then 92 ∷ 92 ∷ []
    else (if is_printable unit then unit ∷ []
    else (if is_surrogate unit then [] else 92 ∷ 117 ∷ hex_digits 4 unit))

-- the text of units
unfoldable pub units_text : List ℕ → List ℕ
units_text [] = []
units_text (unit ∷ units) = unit_text unit ++ units_text units

-- the text of at most 4,096 units
pub record IsConsoleText (text : List ℕ) : Type 0 where
  pub units : List ℕ
  pub few : length units ≤ 4096
  pub halves : All (λ unit. unit < 2 ^ 16) units
  pub same : text ≡ units_text units
