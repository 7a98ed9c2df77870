-- The text of units.
use Rattle.std.proofs.Common.{◌≡◌, ℕ, zero, suc, ◌+◌, ◌/◌, ◌%◌, ◌<◌, ◌≤◌, Bool, true, false, List, [], ◌∷◌, ◌++◌, length, drop, get_or, refl, sym, ap, ◌∙◌, arith, lit<, add-one, append_assoc}
use Rattle.std.specs.Prelude.{◌==◌, ◌||◌, if◌then◌else◌}
use Rattle.std.specs.List.{list_any}
use Rattle.std.specs.Str.{IsAscii, IsUtf8}
use Rattle.std.proofs.Math.Seq.{drop-cons}
use Rattle.std.proofs.Math.ListN.{drop_of_length-le}
use Rattle.std.proofs.Math.Bool.{or_assoc}
use Rattle.std.proofs.lemmas.List.{append-nil}
use Rattle.std.proofs.lemmas.Str.{IsUtf8-from_ascii, IsUtf8-append, IsAscii-append}
use Rattle.std.proofs.lemmas.Str.Ascii.{IsAscii-nil, IsAscii-cons}
use Rattle.std.proofs.lemmas.Bool.Decides.{nat_tests}
use Rattle.uh_base.specs.Hex.{hex_digits, hex_digit}
use Rattle.uh_base.specs.ConsoleText.{is_printable, is_surrogate, unit_text, units_text}

-- hexadecimal digits are text
digit_is_ascii : (d : ℕ) → d < 16 → IsAscii (hex_digit d ∷ [])
digit_is_ascii d h zero = grind (arith, nat_tests, h)
digit_is_ascii d h (suc i) = omega arith

hex_is_ascii : (count n : ℕ) → IsAscii (hex_digits count n)
unfolding hex_digits
hex_is_ascii zero n = IsAscii-nil
hex_is_ascii (suc count) n = IsAscii-append (hex_digits count (n / 16)) (hex_digit (n % 16) ∷ []) (hex_is_ascii count (n / 16)) (digit_is_ascii (n % 16) (omega arith))

hex_is_text : (count n : ℕ) → IsUtf8 (hex_digits count n)
hex_is_text count n = IsUtf8-from_ascii (hex_digits count n) (hex_is_ascii count n)

-- It is text.
printable_is_text : (unit : ℕ) → is_printable unit ≡ true → IsUtf8 (unit ∷ [])
printable_is_text unit h =
    let low : unit < 128 = grind (arith, nat_tests, h) in
    IsUtf8-from_ascii (unit ∷ []) (IsAscii-cons unit [] low IsAscii-nil)

unit_is_text : (unit : ℕ) → IsUtf8 (unit_text unit)
unfolding unit_text
unit_is_text unit = by (unit == 92) (is_printable unit) (is_surrogate unit) refl
  where
    by : (slash printable surrogate : Bool) → is_printable unit ≡ printable
        → IsUtf8 (if slash then 92 ∷ 92 ∷ [] else (if printable then unit ∷ [] else (if surrogate then [] else 92 ∷ 117 ∷ hex_digits 4 unit)))
    by true _ _ e = IsUtf8-from_ascii (92 ∷ 92 ∷ []) (IsAscii-cons 92 (92 ∷ []) (lit< tt) (IsAscii-cons 92 [] (lit< tt) IsAscii-nil))
    by false true _ e = printable_is_text unit e
    by false false true e = IsUtf8-from_ascii [] IsAscii-nil
    by false false false e = IsUtf8-append (92 ∷ 117 ∷ []) (hex_digits 4 unit) (IsUtf8-from_ascii (92 ∷ 117 ∷ []) (IsAscii-cons 92 (117 ∷ []) (lit< tt) (IsAscii-cons 117 [] (lit< tt) IsAscii-nil))) (hex_is_text 4 unit)

pub units_are_text : (units : List ℕ) → IsUtf8 (units_text units)
unfolding units_text
units_are_text [] = IsUtf8-from_ascii [] IsAscii-nil
units_are_text (unit ∷ units) = IsUtf8-append (unit_text unit) (units_text units) (unit_is_text unit) (units_are_text units)

-- one unit more
pub text_more : (units text new whole : List ℕ) (i : ℕ) → i < length units → new ≡ text ++ unit_text (get_or units i 0)
    → text ++ units_text (drop i units) ≡ whole → new ++ units_text (drop (i + 1) units) ≡ whole
unfolding units_text
text_more units text new whole i h e w =
    let next : drop i units ≡ get_or units i 0 ∷ drop (i + 1) units = drop-cons units i 0 h ∙ ap (λ k. get_or units i 0 ∷ drop k units) (sym (add-one i)) in
    ap (λ t. t ++ units_text (drop (i + 1) units)) e
    ∙ append_assoc text (unit_text (get_or units i 0)) (units_text (drop (i + 1) units))
    ∙ ap (λ us. text ++ units_text us) (sym next) ∙ w

pub any_more : (p : ℕ → Bool) (units : List ℕ) (flag one whole : Bool) (i : ℕ) → i < length units → one ≡ p (get_or units i 0)
    → (flag || list_any p (drop i units)) ≡ whole → (flag || one || list_any p (drop (i + 1) units)) ≡ whole
any_more p units flag one whole i h e w =
    let next : drop i units ≡ get_or units i 0 ∷ drop (i + 1) units = drop-cons units i 0 h ∙ ap (λ k. get_or units i 0 ∷ drop k units) (sym (add-one i)) in
    ap (λ (b : Bool). flag || b || list_any p (drop (i + 1) units)) e
    ∙ or_assoc flag (p (get_or units i 0)) (list_any p (drop (i + 1) units))
    ∙ ap (λ us. flag || list_any p us) (sym next) ∙ w

-- no unit is left
pub text_whole : (units text whole : List ℕ) (i : ℕ) → length units ≤ i → text ++ units_text (drop i units) ≡ whole → text ≡ whole
unfolding units_text
text_whole units text whole i h w =
    sym (append-nil text) ∙ ap (λ us. text ++ units_text us) (sym (drop_of_length-le units h)) ∙ w
