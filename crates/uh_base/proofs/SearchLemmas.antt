-- A search by halves in a list whose keys rise finds the first place of a key.
use Rattle.std.proofs.Common.{◌≡◌, ℕ, ◌<◌, ◌≤◌, List, [], ◌∷◌, length, get_or, refl, sym, ap, arith, Bool, true, false, inl, inr}
use Rattle.std.specs.Prelude.{Some, None, Ok, Err, ◌==◌, nat_lt}
use Rattle.std.specs.List.{position}
use Rattle.std.specs.List.Sorted.{IsBinarySearchResult, IsNonDecreasingBy}
use Rattle.std.specs.Ordering.{nat_cmp, ordering_index}
use Rattle.std.proofs.lemmas.Cmp.{ranked}
use Rattle.std.proofs.lemmas.Bool.{ne_eqb, cases_lt, cases_eq}
use Rattle.std.proofs.lemmas.Bool.Decides.{nat_tests}
use Rattle.std.proofs.lemmas.List.Sums.{position_or_len_is}
use Rattle.uh_base.specs.Numbered.{Rise}

position_at : {X : Type 0} (test : X → Bool) (xs : List X) (i : ℕ) (d : X) → i < length xs → test (get_or xs i d) ≡ true → ((k : ℕ) → k < i → test (get_or xs k d) ≡ false) → position test xs ≡ Some i
position_at test xs i d l here before =
    let at = position_or_len_is test xs i d (omega arith) before (λ h. here) in
    let less : nat_lt i (length xs) ≡ true = grind (arith, nat_tests) in
    rw at (rw less refl)

position_nowhere : {X : Type 0} (test : X → Bool) (xs : List X) (d : X) → ((k : ℕ) → k < length xs → test (get_or xs k d) ≡ false) → position test xs ≡ None
position_nowhere test xs d none =
    let at = position_or_len_is test xs (length xs) d (omega arith) none (λ h. absurd (omega arith)) in
    let over : nat_lt (length xs) (length xs) ≡ false = grind (arith, nat_tests) in
    rw at (rw over refl)

keys_rise : {X : Type 0} (key : X → ℕ) (xs : List X) (i j : ℕ) (d : X) → Rise key xs → i ≤ j → j < length xs → key (get_or xs i d) ≤ key (get_or xs j d)
keys_rise key xs i j d order le l =
    elim (cases_eq i j) [
      | inl same ↦ (let k = ap (λ n. key (get_or xs n d)) same in omega (arith, k))
      | inr differs ↦ (let less : i < j = omega (arith, le, differs) in let k = order i j d less l in omega (arith, k))
    ]

comparisons_rise : {X : Type 0} (key : X → ℕ) (n : ℕ) (xs : List X) → Rise key xs → IsNonDecreasingBy (λ (x : X). ordering_index (nat_cmp (key x) n)) xs
comparisons_rise key n xs order = λ i j d le l.
    let rise : key (get_or xs i d) ≤ key (get_or xs j d) = keys_rise key xs i j d order le l in
    grind (arith, nat_tests)

pub search_some : {X : Type 0} (key : X → ℕ) (n at : ℕ) (xs : List X) → Rise key xs → at < length xs → IsBinarySearchResult (λ (x : X). nat_cmp (key x) n) xs (Ok at) → position (λ x. key x == n) xs ≡ Some at
search_some key n at [] order l equal = absurd (omega arith)
search_some key n at (x ∷ xs) order l equal =
    let same : key (get_or (x ∷ xs) at x) ≡ n = ranked _ n _ (sym (equal x)) in
    position_at (λ y. key y == n) (x ∷ xs) at x l (grind (arith, nat_tests))
    (λ k before. let less = order k at x before l in ne_eqb _ n (λ h. omega (arith, less, same, h)))

pub search_none : {X : Type 0} (key : X → ℕ) (n at : ℕ) (xs : List X) → Rise key xs → IsBinarySearchResult (λ (x : X). nat_cmp (key x) n) xs (Err at) → position (λ x. key x == n) xs ≡ None
search_none key n at [] order parted = refl
search_none key n at (x ∷ xs) order parted =
    let both = parted (comparisons_rise key n (x ∷ xs) order) in
    position_nowhere (λ y. key y == n) (x ∷ xs) x (λ k l.
    ne_eqb _ n (λ same.
    elim (cases_lt k at) [
      | inl before ↦ (let less = ranked _ n _ (sym (both.0 k x (omega arith) before)) in omega (arith, less, same))
      | inr after ↦ (let more = ranked _ n _ (sym (both.1 k x after l)) in omega (arith, more, same))
    ]))
