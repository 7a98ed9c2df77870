-- Parts of a line's text.
use Rattle.std.specs.Prelude.{ℕ, ◌+◌, ◌-◌, ◌==◌, ◌||◌, ◌&&◌, Bool, not, List, [], ◌∷◌, length, take, drop, slice_index, Option, Some, None, Result, Ok, Err, nat_lt, if◌then◌else◌}
use Rattle.std.specs.List.{prefix_len, suffix_len, position_or_len, before_first, after_first, list_any}
use Rattle.std.specs.Borrow.{Bor}
use Rattle.guest_build.specs.declared.fault.AsmKind.{AsmKind}
use Rattle.guest_build.specs.declared.fault.AsmKind.TheVariants.{Operand}

-- blanks are spaces and tabs
abbrev pub is_blank : ℕ → Bool
is_blank b = b == 32 || b == 9

-- without the blanks in front, and without those at both ends
unfoldable pub behind_blanks : List ℕ → List ℕ
behind_blanks text = drop (prefix_len is_blank text) text

unfoldable pub before_blanks : List ℕ → List ℕ
before_blanks text = take (length text - suffix_len is_blank text) text

unfoldable pub trimmed : List ℕ → List ℕ
trimmed text = before_blanks (behind_blanks text)

-- a quote has a partner where another stands behind it
abbrev pub has_quote : List ℕ → Bool
has_quote text = list_any (λ b. b == 34) text

-- A quote ends what is quoted, or else begins it. A quote without a partner quotes nothing.
abbrev pub is_quoted : Bool → ℕ → List ℕ → Bool
is_quoted quoted b rest = if quoted then not (b == 34) else (b == 34 && has_quote rest)

abbrev pub stops : ℕ → Bool → ℕ → Bool
stops wanted quoted b = not quoted && b == wanted

-- where a byte first stands outside quotes, or the length
unfoldable pub outside : ℕ → Bool → List ℕ → ℕ
outside wanted quoted [] = 0
outside wanted quoted (b ∷ rest) = if stops wanted quoted b then 0 else 1 + outside wanted (is_quoted quoted b rest) rest

-- what stands before and behind the first of a byte
unfoldable pub cut : ℕ → List ℕ → Result (List ℕ × List ℕ) AsmKind
cut c text =
    if nat_lt (position_or_len (λ b. b == c) text) (length text) then Ok (before_first (λ b. b == c) text, after_first (λ b. b == c) text)
    else Err Operand

-- what stands behind a byte at the beginning, and before a byte at the end
unfoldable pub behind_first : ℕ → List ℕ → Option (List ℕ)
behind_first c [] = None
behind_first c (b ∷ text) = if b == c then Some text else None

unfoldable pub before_last : ℕ → List ℕ → Option (List ℕ)
before_last c text = if nat_lt 0 (length text) && slice_index text (length text - 1) == c then Some (take (length text - 1) text) else None

-- ---- what the program has borrowed

abbrev pub seen : {A : Type 0} → Result (Bor A) AsmKind → Result A AsmKind
seen (Ok x) = Ok x.now
seen (Err e) = Err e

abbrev pub seen_two : {A : Type 0} → Result (Bor A × Bor A) AsmKind → Result (A × A) AsmKind
seen_two (Ok p) = Ok (p.0.now, p.1.now)
seen_two (Err e) = Err e

abbrev pub seen_three : {A : Type 0} → Result (Bor A × Bor A × Bor A) AsmKind → Result (A × A × A) AsmKind
seen_three (Ok p) = Ok (p.0.now, p.1.now, p.2.now)
seen_three (Err e) = Err e
