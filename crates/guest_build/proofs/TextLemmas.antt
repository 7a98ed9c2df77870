-- Cutting a line's text.
use Rattle.std.proofs.Common.{◌≡◌, ℕ, ◌+◌, ◌-◌, ◌<◌, ◌≤◌, zero, suc, Bool, true, false, ◌&&◌, List, [], ◌∷◌, ◌++◌, Option, Some, None, Ok, Err, Bor, length, take, drop, get_or, eqb, refl, sym, ap, add-one, ◌∙◌, inl, inr, arith}
use Rattle.std.specs.Prelude.{◌==◌, option_map, slice_index, nat_lt}
use mathlib.Core.Logic.{◌≢◌}
use Rattle.std.proofs.lemmas.Bool.{cases_Bool, eqb-true, eq-eqb}
use Rattle.std.proofs.lemmas.Bool.Decides.{nat_tests}
use Rattle.std.proofs.lemmas.List.{drop_more, drop_all, take_at, take_more, take_all, take_rest, get_or_push, length_push}
use Rattle.std.proofs.lemmas.Str.{IsCharBoundary-after_ascii, IsCharBoundary-start}
use Rattle.std.specs.Option.{MatchOption}
use Rattle.std.specs.Str.{IsUtf8, IsCharBoundary}
use Rattle.std.specs.List.{position_or_len, before_first, after_first}
use Rattle.guest_build.specs.Texts.{cut, seen_two, behind_first, before_last, stops, is_quoted, outside}
use Rattle.guest_build.specs.declared.fault.AsmKind.TheVariants.{Operand}

pub is_cut : (c : ℕ) (bs : List ℕ) (r : Option (Bor (List ℕ) × Bor (List ℕ))) (p : Bor (List ℕ) × Bor (List ℕ)) → r ≡ Some p
    → MatchOption r (position_or_len (λ b. eqb b c) bs ≡ length bs) (λ x. (position_or_len (λ b. eqb b c) bs < length bs) × (x.0.now ≡ before_first (λ b. eqb b c) bs) × (x.1.now ≡ after_first (λ b. eqb b c) bs))
    → seen_two (Ok p) ≡ cut c bs
unfolding cut
is_cut c bs (Some x) p e h = let q : x ≡ p = cc in rw (← q) (grind (arith, nat_tests, h.0, h.1, h.2))
is_cut c bs None p e h = cc

pub is_uncut : (c : ℕ) (bs : List ℕ) (r : Option (Bor (List ℕ) × Bor (List ℕ))) → r ≡ None
    → MatchOption r (position_or_len (λ b. eqb b c) bs ≡ length bs) (λ x. (position_or_len (λ b. eqb b c) bs < length bs) × (x.0.now ≡ before_first (λ b. eqb b c) bs) × (x.1.now ≡ after_first (λ b. eqb b c) bs))
    → Err Operand ≡ cut c bs
unfolding cut
is_uncut c bs (Some x) e h = cc
is_uncut c bs None e h = grind (arith, nat_tests, h)

pub is_behind : (c : ℕ) (bs : List ℕ) (r : Option (Bor (List ℕ))) → MatchOption r ((rest : List ℕ) → bs ≢ c ∷ rest) (λ x. bs ≡ c ∷ x.now)
    → option_map (λ rest. rest.now) r ≡ behind_first c bs
unfolding behind_first
is_behind c bs (Some x) h = rw (h, eq-eqb c c refl) refl
is_behind c [] None h = refl
is_behind c (b ∷ bs) None h =
    elim (cases_Bool (b == c)) [
      | inl same ↦ absurd (h bs (ap (λ x. x ∷ bs) (eqb-true b c same)))
      | inr other ↦ rw other refl
    ]

last_is : (front : List ℕ) (c : ℕ) → slice_index (front ++ c ∷ []) (length (front ++ c ∷ []) - 1) ≡ c
last_is front c = rw (length_push front c) (get_or_push front c 0 (length front + 1 - 1) (omega arith))

front_is : (front : List ℕ) (c : ℕ) → take (length (front ++ c ∷ []) - 1) (front ++ c ∷ []) ≡ front
front_is front c = rw (length_push front c) (take_at front (c ∷ []) (length front + 1 - 1) (omega arith))

ends_in : (bs : List ℕ) (c : ℕ) → (nat_lt 0 (length bs) && slice_index bs (length bs - 1) == c) ≡ true → bs ≡ take (length bs - 1) bs ++ c ∷ []
ends_in bs c h =
    let long : 0 < length bs = grind (arith, nat_tests, h) in
    let last : slice_index bs (length bs - 1) ≡ c = grind (arith, nat_tests, h) in
    let all : length bs - 1 + 1 ≡ length bs = omega arith in
    let more = take_more bs (length bs - 1) 0 (omega arith) in
    sym (take_all (length bs) bs (omega arith)) ∙ ap (λ n. take n bs) (sym all) ∙ more ∙ ap (λ x. take (length bs - 1) bs ++ x ∷ []) last

pub is_before : (c : ℕ) (bs : List ℕ) (r : Option (Bor (List ℕ))) → MatchOption r ((front : List ℕ) → bs ≢ front ++ (c ∷ [])) (λ x. bs ≡ x.now ++ (c ∷ []))
    → option_map (λ front. front.now) r ≡ before_last c bs
unfolding before_last
is_before c bs (Some x) h =
    let long : 0 < length (x.now ++ c ∷ []) = rw (length_push x.now c) (omega arith) in
    rw (h, last_is x.now c, front_is x.now c, eq-eqb c c refl) (grind (arith, nat_tests))
is_before c bs None h =
    elim (cases_Bool (nat_lt 0 (length bs) && slice_index bs (length bs - 1) == c)) [
      | inl same ↦ absurd (h (take (length bs - 1) bs) (ends_in bs c same))
      | inr other ↦ rw other refl
    ]

pub outside_stops : (wanted : ℕ) (quoted : Bool) (xs : List ℕ) (i : ℕ) → i < length xs → stops wanted quoted (get_or xs i 0) ≡ true
    → outside wanted quoted (drop i xs) ≡ 0
unfolding outside
outside_stops wanted quoted xs i h e = rw (drop_more xs i 0 h, e) refl

pub outside_goes : (wanted : ℕ) (quoted : Bool) (xs : List ℕ) (i n : ℕ) (next : Bool) → i < length xs → stops wanted quoted (get_or xs i 0) ≡ false
    → n ≡ length xs - (i + 1) → next ≡ is_quoted quoted (get_or xs i 0) (take n (drop (i + 1) xs))
    → outside wanted quoted (drop i xs) ≡ 1 + outside wanted next (drop (i + 1) xs)
unfolding outside
outside_goes wanted quoted xs i n next h e m q =
    let rest : take n (drop (i + 1) xs) ≡ drop (i + 1) xs = rw m (take_rest xs (i + 1)) in
    let same : next ≡ is_quoted quoted (get_or xs i 0) (drop (i + 1) xs) = q ∙ ap (is_quoted quoted (get_or xs i 0)) rest in
    rw (drop_more xs i 0 h, e, same) refl

pub outside_end : (wanted : ℕ) (quoted : Bool) (xs : List ℕ) (i : ℕ) → length xs ≤ i → outside wanted quoted (drop i xs) ≡ 0
unfolding outside
outside_end wanted quoted xs i h = rw (drop_all i xs h) refl

-- a text may be cut behind a byte of ASCII
pub cut_behind : (bs : List ℕ) (i : ℕ) → IsUtf8 bs → i ≤ length bs → (0 < i → slice_index bs (i - 1) < 128) → IsCharBoundary bs i
cut_behind bs zero u l h = IsCharBoundary-start bs u
cut_behind bs (suc i) u l h =
    let at : suc i - 1 ≡ i = omega arith in
    let small : get_or bs i 0 < 128 = rw at at (h (omega arith)) in
    let cut = IsCharBoundary-after_ascii bs i u (omega arith) small in
    rw add-one at cut
