-- Bytes in text, byte by byte.
use Rattle.std.proofs.Common.{◌≡◌, ℕ, suc, ◌+◌, ◌*◌, ◌/◌, ◌%◌, ◌<◌, ◌≤◌, true, List, [], ◌∷◌, ◌++◌, length, get_or, drop, Option, Some, None, refl, sym, ap, ◌∙◌, append_assoc, arith}
use Rattle.std.specs.Prelude.{option_and_then}
use Rattle.std.proofs.lemmas.Bool.Decides.{nat_tests}
use Rattle.std.proofs.lemmas.List.{drop_more, drop_all, append-nil}
use Rattle.uh_base.specs.Hex.{hex_digit, hex_digits}
use Rattle.record_text.specs.Console.{is_digit, digit}
use Rattle.record_text.specs.HexBytes.{AreBytes, bytes_text, byte_of, bytes_from, bytes_of}

-- ---- written

pub text_goes_on : (bytes so_far whole : List ℕ) (i d : ℕ) → i < length bytes → so_far ++ bytes_text (drop i bytes) ≡ whole → (so_far ++ hex_digits 2 (get_or bytes i d)) ++ bytes_text (drop (i + 1) bytes) ≡ whole
unfolding bytes_text
text_goes_on bytes so_far whole i d below h =
    append_assoc so_far (hex_digits 2 (get_or bytes i d)) (bytes_text (drop (i + 1) bytes)) ∙ ap (λ rest. so_far ++ bytes_text rest) (sym (drop_more bytes i d below)) ∙ h

pub text_ends : (bytes so_far whole : List ℕ) (i : ℕ) → length bytes ≤ i → so_far ++ bytes_text (drop i bytes) ≡ whole → so_far ≡ whole
unfolding bytes_text
text_ends bytes so_far whole i past h = sym (append-nil so_far) ∙ ap (λ rest. so_far ++ bytes_text rest) (sym (drop_all i bytes past)) ∙ h

-- ---- read

module _ (digits before : List ℕ) (at d : ℕ) (whole : Option (List ℕ)) (so_far : bytes_from before (drop at digits) ≡ whole) where
  pair : at + 1 < length digits → drop at digits ≡ get_or digits at d ∷ get_or digits (at + 1) d ∷ drop (at + 2) digits
  pair below =
      let here : drop at digits ≡ get_or digits at d ∷ drop (at + 1) digits = drop_more digits at d (omega (arith, below)) in
      let next : drop (at + 1) digits ≡ get_or digits (at + 1) d ∷ drop (at + 1 + 1) digits = drop_more digits (at + 1) d below in
      let two : at + 1 + 1 ≡ at + 2 = omega arith in
      here ∙ ap (λ rest. get_or digits at d ∷ rest) (next ∙ ap (λ n. get_or digits (at + 1) d ∷ drop n digits) two)

  of_pair : at + 1 < length digits → option_and_then (λ byte. bytes_from (before ++ byte ∷ []) (drop (at + 2) digits)) (byte_of (get_or digits at d) (get_or digits (at + 1) d)) ≡ whole
  unfolding bytes_from
  of_pair below = sym (ap (bytes_from before) (pair below)) ∙ so_far

  pub pair_goes_on : at + 1 < length digits → (byte : ℕ) → byte_of (get_or digits at d) (get_or digits (at + 1) d) ≡ Some byte → bytes_from (before ++ byte ∷ []) (drop (at + 2) digits) ≡ whole
  pair_goes_on below byte is = sym (ap (option_and_then (λ byte. bytes_from (before ++ byte ∷ []) (drop (at + 2) digits))) is) ∙ of_pair below

  pub pair_fails : at + 1 < length digits → byte_of (get_or digits at d) (get_or digits (at + 1) d) ≡ None → None ≡ whole
  pair_fails below is = sym (ap (option_and_then (λ byte. bytes_from (before ++ byte ∷ []) (drop (at + 2) digits))) is) ∙ of_pair below

  pub one_left : at + 1 ≡ length digits → None ≡ whole
  unfolding bytes_from
  one_left last =
      let here : drop at digits ≡ get_or digits at d ∷ drop (at + 1) digits = drop_more digits at d (omega (arith, last)) in
      let none : drop (at + 1) digits ≡ [] = drop_all (at + 1) digits (omega (arith, last)) in
      sym (ap (bytes_from before) (here ∙ ap (λ rest. get_or digits at d ∷ rest) none)) ∙ so_far

  pub none_left : length digits ≤ at → Some before ≡ whole
  unfolding bytes_from
  none_left past = sym (ap (bytes_from before) (drop_all at digits past)) ∙ so_far

-- ---- read back

digit_back : (d : ℕ) → d < 16 → digit (hex_digit d) ≡ d
unfolding digit
digit_back d h = grind (arith, nat_tests, h)

is_back : (d : ℕ) → d < 16 → is_digit (hex_digit d) ≡ true
is_back d h = grind (arith, nat_tests, h)

byte_back : (byte : ℕ) → byte < 256 → byte_of (hex_digit (byte / 16 % 16)) (hex_digit (byte % 16)) ≡ Some byte
byte_back byte h =
    let high : byte / 16 % 16 < 16 = omega arith in
    let low : byte % 16 < 16 = omega arith in
    let whole : byte / 16 % 16 * 16 + byte % 16 ≡ byte = omega (arith, h) in
    rw (is_back (byte / 16 % 16) high, is_back (byte % 16) low, digit_back (byte / 16 % 16) high, digit_back (byte % 16) low, whole) refl

back_from : (before bytes : List ℕ) → AreBytes bytes → bytes_from before (bytes_text bytes) ≡ Some (before ++ bytes)
unfolding bytes_from bytes_text hex_digits
back_from before [] are = ap Some (sym (append-nil before))
back_from before (byte ∷ bytes) are =
    rw (byte_back byte (are 0)) (back_from (before ++ byte ∷ []) bytes (λ i. are (suc i)) ∙ ap Some (append_assoc before (byte ∷ []) bytes))

pub bytes_back : (bytes : List ℕ) → AreBytes bytes → bytes_of (bytes_text bytes) ≡ Some bytes
unfolding bytes_of
bytes_back bytes are = back_from [] bytes are
