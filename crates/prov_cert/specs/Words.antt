-- Words, numbers and lists in the texts of a certificate. Between words stand spaces alone.
use Rattle.std.specs.Prelude.{ℕ, ◌==◌, Bool, List, [], length, take, drop, Option, Some, None, nat_lt, if◌then◌else◌}
use Rattle.std.specs.List.{prefix_len, position_or_len, before_first, after_first, slice_split}
use Rattle.std.specs.Borrow.{Bor}
use Rattle.uh_base.specs.Numbers.{number_of}

infixl 10 ◌>>=◌
abbrev pub ◌>>=◌ : {A B : Type 0} → Option A → (A → Option B) → Option B
None >>= f = None
(Some x) >>= f = f x

-- a value where a test passes
abbrev pub where_true : {A : Type 0} → Bool → A → Option A
where_true test x = if test then Some x else None

abbrev pub is_space : ℕ → Bool
is_space b = b == 32

-- without the spaces in front
unfoldable pub behind_spaces : List ℕ → List ℕ
behind_spaces text = drop (prefix_len is_space text) text

-- spaces alone
unfoldable pub is_blank : List ℕ → Bool
is_blank text = length (behind_spaces text) == 0

-- a text at its first space, the space with what is behind it
abbrev pub split_word : List ℕ → List ℕ × List ℕ
split_word text = (take (position_or_len is_space text) text, drop (position_or_len is_space text) text)

-- the first word and what is behind it, None where there is no word
unfoldable pub next_word : List ℕ → Option (List ℕ × List ℕ)
next_word text = if length (behind_spaces text) == 0 then None else Some (split_word (behind_spaces text))

abbrev pub with_number : List ℕ → Option ℕ → Option (ℕ × List ℕ)
with_number rest None = None
with_number rest (Some n) = Some (n, rest)

-- the number that the first word is, and what is behind it
unfoldable pub next_number : List ℕ → Option (ℕ × List ℕ)
next_number text = next_word text >>= λ p. with_number p.1 (number_of p.0)

-- the number that is the one word
unfoldable pub one_number : List ℕ → Option ℕ
one_number text = next_number text >>= λ p. where_true (is_blank p.1) p.0

-- what stands before and behind the first of a byte, None where there is none
unfoldable pub cut : ℕ → List ℕ → Option (List ℕ × List ℕ)
cut c text = if nat_lt (position_or_len (λ b. b == c) text) (length text) then Some (before_first (λ b. b == c) text, after_first (λ b. b == c) text) else None

-- the parts between commas, none where there are spaces alone
unfoldable pub listed : List ℕ → List (List ℕ)
listed text = if is_blank text then [] else slice_split (λ b. b == 44) text

-- ---- what the program has borrowed

abbrev pub seen_pair : {A : Type 0} → Option (Bor A × Bor A) → Option (A × A)
seen_pair None = None
seen_pair (Some p) = Some (p.0.now, p.1.now)

abbrev pub seen_behind : {A X : Type 0} → Option (X × Bor A) → Option (X × A)
seen_behind None = None
seen_behind (Some p) = Some (p.0, p.1.now)
