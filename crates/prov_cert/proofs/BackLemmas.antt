-- Texts that are written are read back: words, numbers and kinds.
use Rattle.std.proofs.Common.{◌≡◌, ℕ, suc, ◌+◌, ◌-◌, ◌%◌, ◌^◌, ◌<◌, ◌≤◌, Bool, true, false, ◌&&◌, nat_lt, nat_le, List, [], ◌∷◌, ◌++◌, length, drop, codes, Some, None, refl, sym, ap, ◌∙◌, append-nil, arith}
use Rattle.std.specs.Prelude.{if◌then◌else◌, ◌==◌}
use Rattle.std.specs.Fmt.{decimal}
use Rattle.std.specs.Int.{IsInRange}
use Rattle.std.specs.List.{prefix_len, position_or_len}
use Rattle.std.proofs.Math.Seq.{take-append_seam, drop-append_seam}
use Rattle.std.proofs.lemmas.Fmt.{digits_decimal, decimal_nonempty}
use Rattle.std.proofs.lemmas.Str.Parse.{IsDigitsTest, numerals_by_value}
use Rattle.std.proofs.lemmas.Bool.{and_parts}
use Rattle.std.proofs.lemmas.Bool.Decides.{nat_tests}
use Rattle.uh_base.specs.Names.{is_name_byte}
use Rattle.uh_base.specs.Numbers.{number_of}
use Rattle.prov_types.specs.declared.kinds.Span.{Span}
use Rattle.prov_types.specs.declared.kinds.Kind.{Kind}
use Rattle.prov_types.specs.declared.kinds.Kind.TheVariants.{Any, Num, Ptr, Opt}
use Rattle.prov_types.specs.Spans.{IsProper, one, whole}
use Rattle.prov_cert.specs.Words.{◌>>=◌, where_true, is_space, behind_spaces, is_blank, split_word, next_word, with_number, next_number, one_number}
use Rattle.prov_cert.specs.Forms.{is_span, span_from, offsets, number_kind, value_kind, pointed, kind_by, kind_of}
use Rattle.prov_cert.specs.Kept.{IsNumber, IsSpan, IsKind}
use Rattle.prov_cert.specs.Texts.{spaced, is_one, is_whole, span_text, offsets_text, number_text, kind_text}

-- ---- bytes

abbrev pub Are : (ℕ → Bool) → List ℕ → Type 0
Are p [] = Unit {0}
Are p (b ∷ bs) = (p b ≡ true) × Are p bs

pub are-append : (p : ℕ → Bool) (xs ys : List ℕ) → Are p xs → Are p ys → Are p (xs ++ ys)
are-append p [] ys a b = b
are-append p (x ∷ xs) ys a b = (a.0, are-append p xs ys a.1 b)

pub are-more : (p q : ℕ → Bool) → ((b : ℕ) → p b ≡ true → q b ≡ true) → (xs : List ℕ) → Are p xs → Are q xs
are-more p q f [] a = tt
are-more p q f (x ∷ xs) a = (f x a.0, are-more p q f xs a.1)

pub no_space : (b : ℕ) → is_name_byte b ≡ true → (b == 32) ≡ false
no_space b h = grind (arith, nat_tests, h)

-- ---- words

abbrev pub IsWord : List ℕ → Type 0
IsWord [] = ⊥
IsWord (b ∷ bs) = (is_name_byte b ≡ true) × Are is_name_byte bs

pub word_are : (w : List ℕ) → IsWord w → Are is_name_byte w
word_are [] a = absurd a
word_are (b ∷ w) a = a

pub not_zero : (n : ℕ) → (suc n == 0) ≡ false
not_zero n = grind (arith, nat_tests)

abbrev pub ends : List ℕ → Bool
ends [] = true
ends (b ∷ bs) = b == 32

word_end : (w rest : List ℕ) → Are is_name_byte w → ends rest ≡ true → position_or_len is_space (w ++ rest) ≡ length w
word_end [] [] a e = refl
word_end [] (b ∷ bs) a e = rw e refl
word_end (b ∷ w) rest a e = let n = no_space b a.0 in rw n (omega (arith, word_end w rest a.1 e))

split_at_word : (w rest : List ℕ) → Are is_name_byte w → ends rest ≡ true → split_word (w ++ rest) ≡ (w, rest)
split_at_word w rest a e = rw (word_end w rest a e, take-append_seam w rest, drop-append_seam w rest) refl

pub word_front : (b : ℕ) (x : List ℕ) → is_name_byte b ≡ true → behind_spaces (b ∷ x) ≡ b ∷ x
unfolding behind_spaces
word_front b x h = rw (no_space b h) refl

pub next_word_at : (w rest : List ℕ) → IsWord w → ends rest ≡ true → next_word (w ++ rest) ≡ Some (w, rest)
unfolding next_word
next_word_at [] rest a e = absurd a
next_word_at (b ∷ w) rest a e = rw (word_front b (w ++ rest) a.0, not_zero (length (w ++ rest))) (ap Some (split_at_word (b ∷ w) rest a e))

skip_space : (t : List ℕ) → behind_spaces (32 ∷ t) ≡ behind_spaces t
unfolding behind_spaces
skip_space t = let e : 1 + prefix_len is_space t ≡ suc (prefix_len is_space t) = omega arith in ap (λ n. drop n (32 ∷ t)) e

pub next_word_space : (t : List ℕ) → next_word (32 ∷ t) ≡ next_word t
unfolding next_word
next_word_space t = ap (λ x. if length x == 0 then None else Some (split_word x)) (skip_space t)

pub next_number_space : (t : List ℕ) → next_number (32 ∷ t) ≡ next_number t
unfolding next_number
next_number_space t = ap (λ o. o >>= λ p. with_number p.1 (number_of p.0)) (next_word_space t)

one_number_space : (t : List ℕ) → one_number (32 ∷ t) ≡ one_number t
unfolding one_number
one_number_space t = ap (λ o. o >>= λ p. where_true (is_blank p.1) p.0) (next_number_space t)

pub kind_of_space : (regions : ℕ) (t : List ℕ) → kind_of regions (32 ∷ t) ≡ kind_of regions t
unfolding kind_of
kind_of_space regions t = ap (λ o. o >>= λ p. kind_by p.0 regions p.1) (next_word_space t)

pub blank_space : (t : List ℕ) → is_blank (32 ∷ t) ≡ is_blank t
unfolding is_blank
blank_space t = ap (λ x. length x == 0) (skip_space t)

pub blank_nil : is_blank [] ≡ true
unfolding is_blank behind_spaces
blank_nil = refl

pub not_blank : (w rest : List ℕ) → IsWord w → is_blank (w ++ rest) ≡ false
unfolding is_blank
not_blank [] rest a = absurd a
not_blank (b ∷ w) rest a = rw (word_front b (w ++ rest) a.0) (not_zero (length (w ++ rest)))

-- ---- decimal numbers

abbrev Digits : List ℕ → Type 0
Digits [] = Unit {0}
Digits (c ∷ cs) = IsInRange 48 57 c × Digits cs

digits_test : IsDigitsTest Digits
digits_test = record { empty = tt; parts = λ c cs h. h; more = λ c cs r h. (r, h) }

digit_byte : (c : ℕ) → IsInRange 48 57 c → is_name_byte c ≡ true
digit_byte c h = grind (arith, nat_tests, h)

digits_are : (ds : List ℕ) → Digits ds → Are is_name_byte ds
digits_are [] d = tt
digits_are (c ∷ cs) d = (digit_byte c d.0, digits_are cs d.1)

word_of : (ds : List ℕ) → 0 < length ds → Are is_name_byte ds → IsWord ds
word_of [] h a = absurd (omega (arith, h))
word_of (c ∷ cs) h a = a

pub decimal_word : (n : ℕ) → IsNumber n → IsWord (decimal n)
decimal_word n h = word_of (decimal n) (decimal_nonempty n h) (digits_are (decimal n) (digits_decimal (numerals_by_value Digits digits_test) n h))

abbrev pub ReadBack : Type 0
ReadBack = (n : ℕ) → n < 2 ^ 64 → number_of (decimal n) ≡ Some n

span_same : (s : Span) (lo hi step : ℕ) → lo ≡ s.lo → hi ≡ s.hi → step ≡ s.by → record { lo = lo; hi = hi; by = step } ≡ s
span_same s lo hi step a b c = rw (a, b, c) refl

one_is : (s : Span) → is_one s ≡ true → one s.lo ≡ s
one_is s h = let p = and_parts (s.lo == s.hi) (s.by == 1) h in span_same s s.lo s.lo 1 refl (grind (arith, nat_tests, p.0)) (grind (arith, nat_tests, p.1))

whole_is : (s : Span) → is_whole s ≡ true → whole ≡ s
whole_is s h =
    let p = and_parts (s.lo == 0) (s.hi == 2 ^ 64 - 1 && s.by == 1) h in
    let q = and_parts (s.hi == 2 ^ 64 - 1) (s.by == 1) p.1 in
    span_same s 0 (2 ^ 64 - 1) 1 (grind (arith, nat_tests, p.0)) (grind (arith, nat_tests, q.0)) (grind (arith, nat_tests, q.1))

is_span_true : (s : Span) → IsProper s → is_span s.lo s.hi s.by ≡ true
is_span_true s p =
    let x = p.steps in
    let y = p.order in
    let z = p.whole in
    let a : nat_lt 0 s.by ≡ true = grind (arith, nat_tests, x) in
    let b : nat_le s.lo s.hi ≡ true = grind (arith, nat_tests, y) in
    let c : ((s.hi - s.lo) % s.by == 0) ≡ true = grind (arith, nat_tests, z) in
    rw (a, b, c) refl

pub below_true : (a b : ℕ) → a < b → nat_lt a b ≡ true
below_true a b h = grind (arith, nat_tests, h)

low_number : (s : Span) → IsSpan s → IsNumber s.lo
low_number s p = let x = p.proper.order in let y = p.high in omega (arith, x, y)

module _ (back : ReadBack) where
  pub number_at : (n : ℕ) (rest : List ℕ) → IsNumber n → ends rest ≡ true → next_number (decimal n ++ rest) ≡ Some (n, rest)
  unfolding next_number
  number_at n rest h e = rw (next_word_at (decimal n) rest (decimal_word n h) e, back n h) refl

  pub number_behind : (n : ℕ) (rest : List ℕ) → IsNumber n → ends rest ≡ true → next_number (32 ∷ (decimal n ++ rest)) ≡ Some (n, rest)
  number_behind n rest h e = next_number_space (decimal n ++ rest) ∙ number_at n rest h e

  number_end : (n : ℕ) → IsNumber n → next_number (decimal n) ≡ Some (n, [])
  number_end n h = ap next_number (sym (append-nil (decimal n))) ∙ number_at n [] h refl

  pub number_alone : (n : ℕ) → IsNumber n → one_number (decimal n) ≡ Some n
  unfolding one_number
  number_alone n h = rw (number_end n h, blank_nil) refl

  pub number_last : (n : ℕ) → IsNumber n → one_number (32 ∷ decimal n) ≡ Some n
  number_last n h = one_number_space (decimal n) ∙ number_alone n h

  span_back : (s : Span) → IsSpan s → span_from s.lo (32 ∷ (decimal s.hi ++ 32 ∷ decimal s.by)) ≡ Some s
  unfolding span_from
  span_back s p = rw (number_behind s.hi (32 ∷ decimal s.by) p.high refl, number_last s.by p.step, is_span_true s p.proper) refl

  more_there : (s : Span) → IsSpan s → is_blank (32 ∷ (decimal s.hi ++ 32 ∷ decimal s.by)) ≡ false
  more_there s p = blank_space (decimal s.hi ++ 32 ∷ decimal s.by) ∙ not_blank (decimal s.hi) (32 ∷ decimal s.by) (decimal_word s.hi p.high)

  low_end : (s : Span) → IsSpan s → next_number (32 ∷ decimal s.lo) ≡ Some (s.lo, [])
  low_end s p = next_number_space (decimal s.lo) ∙ number_end s.lo (low_number s p)

  offsets_back : (s : Span) → IsSpan s → offsets (32 ∷ offsets_text s) ≡ Some s
  unfolding offsets offsets_text span_text
  offsets_back s p = by (is_one s) refl
    where
      by : (b : Bool) → is_one s ≡ b → offsets (32 ∷ (if b then decimal s.lo else spaced (decimal s.lo) (spaced (decimal s.hi) (decimal s.by)))) ≡ Some s
      by true e = rw (low_end s p, blank_nil) (ap Some (one_is s e))
      by false e = rw (number_behind s.lo (32 ∷ (decimal s.hi ++ 32 ∷ decimal s.by)) (low_number s p) refl, more_there s p) (span_back s p)

  number_kind_back : (regions : ℕ) (s : Span) → IsSpan s → kind_of regions (number_text s) ≡ Some (Num s)
  unfolding kind_of kind_by number_kind value_kind number_text span_text
  number_kind_back regions s p = by (is_one s) (is_whole s) refl refl
    where
      by : (b c : Bool) → is_one s ≡ b → is_whole s ≡ c → kind_of regions (if b then spaced (codes "c") (decimal s.lo) else (if c then codes "n" else spaced (codes "n") (spaced (decimal s.lo) (spaced (decimal s.hi) (decimal s.by))))) ≡ Some (Num s)
      by true c e f = rw (next_word_at (codes "c") (32 ∷ decimal s.lo) (refl, tt) refl, number_last s.lo (low_number s p)) (ap (λ t. Some (Num t)) (one_is s e))
      by false true e f = rw (next_word_at (codes "n") [] (refl, tt) refl, blank_nil) (ap (λ t. Some (Num t)) (whole_is s f))
      by false false e f =
          let rest = decimal s.lo ++ 32 ∷ (decimal s.hi ++ 32 ∷ decimal s.by) in
          let blank : is_blank (32 ∷ rest) ≡ false = blank_space rest ∙ not_blank (decimal s.lo) (32 ∷ (decimal s.hi ++ 32 ∷ decimal s.by)) (decimal_word s.lo (low_number s p)) in
          rw (next_word_at (codes "n") (32 ∷ rest) (refl, tt) refl, blank, number_behind s.lo (32 ∷ (decimal s.hi ++ 32 ∷ decimal s.by)) (low_number s p) refl, span_back s p) refl

  pointed_back : (regions r : ℕ) (s : Span) → regions ≤ 32 → r < regions → IsSpan s → pointed regions (32 ∷ (decimal r ++ 32 ∷ offsets_text s)) ≡ Some (r, s)
  unfolding pointed
  pointed_back regions r s few h p = rw (number_behind r (32 ∷ offsets_text s) (omega (arith, few, h)) refl, below_true r regions h, offsets_back s p) refl

  pub kind_back : (regions : ℕ) (kind : Kind) → regions ≤ 32 → IsKind regions kind → kind_of regions (kind_text kind) ≡ Some kind
  unfolding kind_of kind_by kind_text
  kind_back regions Any few k = rw (next_word_at (codes "any") [] (refl, (refl, (refl, tt))) refl, blank_nil) refl
  kind_back regions (Num s) few k = number_kind_back regions s k
  kind_back regions (Ptr r s) few k = rw (next_word_at (codes "p") (32 ∷ (decimal r ++ 32 ∷ offsets_text s)) (refl, tt) refl, pointed_back regions r s few k.0 k.1) refl
  kind_back regions (Opt r s) few k = rw (next_word_at (codes "o") (32 ∷ (decimal r ++ 32 ∷ offsets_text s)) (refl, tt) refl, pointed_back regions r s few k.0 k.1) refl
