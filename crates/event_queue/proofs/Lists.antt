-- Lists, and the one element of a list that passes a test.
use Rattle.std.proofs.Common.{◌≡◌, ℕ, zero, suc, ◌+◌, ◌≤◌, List, [], ◌∷◌, map, length, drop, set, refl, sym, ap, ◌∙◌, arith, Bool, true, false}
use Rattle.std.specs.Prelude.{◌&&◌, ◌||◌, not, Some, None, if◌then◌else◌, slice_get}
use Rattle.std.specs.List.{list_any, list_all, find, filter, remove, position, position_from}
use Rattle.std.proofs.lemmas.Iterator.Adapters.{position_from-zero}
use Rattle.std.proofs.lemmas.Bool.{or_parts, or_left, or_right, and_parts, and_from, or_from}

-- x stands at i, and it alone passes
abbrev pub Only : {X : Type 0} → (X → Bool) → List X → ℕ → X → Type 0
Only p [] i x = ⊥
Only p (y ∷ ys) zero x = (y ≡ x) × (p y ≡ true) × (list_any p ys ≡ false)
Only p (y ∷ ys) (suc i) x = (p y ≡ false) × Only p ys i x

pub none_mapped : {X : Type 0} (p : X → Bool) (f : X → X) (xs : List X) → list_any p xs ≡ false → map (λ x. if p x then f x else x) xs ≡ xs
none_mapped p f [] h = refl
none_mapped p f (x ∷ xs) h = let k = or_parts (p x) (list_any p xs) h in rw (k.0, none_mapped p f xs k.1) refl

pub none_filtered : {X : Type 0} (p q : X → Bool) (xs : List X) → list_any p xs ≡ false → filter (λ x. p x && q x) xs ≡ []
none_filtered p q [] h = refl
none_filtered p q (x ∷ xs) h = let k = or_parts (p x) (list_any p xs) h in rw (k.0, none_filtered p q xs k.1) refl

pub none_passes : {X : Type 0} (p : X → Bool) (xs : List X) → list_any p xs ≡ false → filter p xs ≡ []
none_passes p [] h = refl
none_passes p (x ∷ xs) h = let k = or_parts (p x) (list_any p xs) h in rw (k.0, none_passes p xs k.1) refl

pub all_left : {X : Type 0} (p : X → Bool) (xs : List X) → list_any p xs ≡ false → filter (λ x. not (p x)) xs ≡ xs
all_left p [] h = refl
all_left p (x ∷ xs) h = let k = or_parts (p x) (list_any p xs) h in rw (k.0, all_left p xs k.1) refl

pub none_found : {X : Type 0} (p : X → Bool) (xs : List X) → list_any p xs ≡ false → find p xs ≡ None
none_found p [] h = refl
none_found p (x ∷ xs) h = let k = or_parts (p x) (list_any p xs) h in rw (k.0, none_found p xs k.1) refl

pub any_found : {X : Type 0} (p : X → Bool) (xs : List X) → find p xs ≡ None → list_any p xs ≡ false
any_found p [] h = refl
any_found p (x ∷ xs) h = by (p x) h (any_found p xs)
  where
    by : (b : Bool) → (if b then Some x else find p xs) ≡ None → (find p xs ≡ None → list_any p xs ≡ false) → (b || list_any p xs) ≡ false
    by true e f = absurd (cc)
    by false e f = f e

pub any_found_some : {X : Type 0} (p : X → Bool) (xs : List X) (x : X) → find p xs ≡ Some x → list_any p xs ≡ true
any_found_some p [] x h = absurd (cc)
any_found_some p (y ∷ ys) x h = by (p y) h (any_found_some p ys x)
  where
    by : (b : Bool) → (if b then Some y else find p ys) ≡ Some x → (find p ys ≡ Some x → list_any p ys ≡ true) → (b || list_any p ys) ≡ true
    by true e f = refl
    by false e f = f e

pub only_mapped : {X : Type 0} (p : X → Bool) (f : X → X) (xs : List X) (i : ℕ) (x : X) → Only p xs i x → map (λ y. if p y then f y else y) xs ≡ set xs i (f x)
only_mapped p f [] i x h = absurd h
only_mapped p f (y ∷ ys) zero x h = rw (h.1, none_mapped p f ys h.2) (ap (λ z. f z ∷ ys) h.0)
only_mapped p f (y ∷ ys) (suc i) x h = rw (h.0, only_mapped p f ys i x h.1) refl

pub only_filtered : {X : Type 0} (p q : X → Bool) (xs : List X) (i : ℕ) (x : X) → Only p xs i x → filter (λ y. p y && q y) xs ≡ (if q x then x ∷ [] else [])
only_filtered p q [] i x h = absurd h
only_filtered p q (y ∷ ys) zero x h = rw (h.1, none_filtered p q ys h.2) (ap (λ z. if q z then z ∷ [] else []) h.0)
only_filtered p q (y ∷ ys) (suc i) x h = rw h.0 (only_filtered p q ys i x h.1)

pub only_passes : {X : Type 0} (p : X → Bool) (xs : List X) (i : ℕ) (x : X) → Only p xs i x → filter p xs ≡ x ∷ []
only_passes p [] i x h = absurd h
only_passes p (y ∷ ys) zero x h = rw (h.1, none_passes p ys h.2) (ap (λ z. z ∷ []) h.0)
only_passes p (y ∷ ys) (suc i) x h = rw h.0 (only_passes p ys i x h.1)

pub only_found : {X : Type 0} (p : X → Bool) (xs : List X) (i : ℕ) (x : X) → Only p xs i x → find p xs ≡ Some x
only_found p [] i x h = absurd h
only_found p (y ∷ ys) zero x h = rw h.1 (ap Some h.0)
only_found p (y ∷ ys) (suc i) x h = rw h.0 (only_found p ys i x h.1)

pub only_removed : {X : Type 0} (p : X → Bool) (xs : List X) (i : ℕ) (x : X) → Only p xs i x → filter (λ y. not (p y)) xs ≡ remove xs i
only_removed p [] i x h = absurd h
only_removed p (y ∷ ys) zero x h = rw h.1 (all_left p ys h.2)
only_removed p (y ∷ ys) (suc i) x h = rw h.0 (ap (λ zs. y ∷ zs) (only_removed p ys i x h.1))

-- ---- filters and tests

pub any_filtered : {X : Type 0} (p q : X → Bool) (xs : List X) → list_any p xs ≡ false → list_any p (filter q xs) ≡ false
any_filtered p q [] h = refl
any_filtered p q (x ∷ xs) h = let k = or_parts (p x) (list_any p xs) h in by (q x) k.0 (any_filtered p q xs k.1)
  where
    by : (b : Bool) → p x ≡ false → list_any p (filter q xs) ≡ false → list_any p (if b then x ∷ filter q xs else filter q xs) ≡ false
    by true e f = or_from (p x) _ e f
    by false e f = f

pub any_left : {X : Type 0} (p : X → Bool) (xs : List X) → list_any p (filter (λ x. not (p x)) xs) ≡ false
any_left p [] = refl
any_left p (x ∷ xs) = by (p x) refl (any_left p xs)
  where
    by : (b : Bool) → p x ≡ b → list_any p (filter (λ y. not (p y)) xs) ≡ false → list_any p (if not b then x ∷ filter (λ y. not (p y)) xs else filter (λ y. not (p y)) xs) ≡ false
    by true e f = f
    by false e f = or_from (p x) _ e f

pub all_filtered : {X : Type 0} (p q : X → Bool) (xs : List X) → list_all p xs ≡ true → list_all p (filter q xs) ≡ true
all_filtered p q [] h = refl
all_filtered p q (x ∷ xs) h = let k = and_parts (p x) (list_all p xs) h in by (q x) k.0 (all_filtered p q xs k.1)
  where
    by : (b : Bool) → p x ≡ true → list_all p (filter q xs) ≡ true → list_all p (if b then x ∷ filter q xs else filter q xs) ≡ true
    by true e f = and_from (p x) _ e f
    by false e f = f

pub length_filtered : {X : Type 0} (q : X → Bool) (xs : List X) → length (filter q xs) ≤ length xs
length_filtered q [] = omega arith
length_filtered q (x ∷ xs) = let h = length_filtered q xs in by (q x) h
  where
    by : (b : Bool) → length (filter q xs) ≤ length xs → length (if b then x ∷ filter q xs else filter q xs) ≤ length (x ∷ xs)
    by true h = omega arith
    by false h = omega arith

pub map_drop : {X Y : Type 0} (f : X → Y) (n : ℕ) (xs : List X) → map f (drop n xs) ≡ drop n (map f xs)
map_drop f zero xs = refl
map_drop f (suc n) [] = refl
map_drop f (suc n) (x ∷ xs) = map_drop f n xs

-- ---- the place of the first that passes

from_none : {X : Type 0} (p : X → Bool) (n : ℕ) (xs : List X) → position_from p n xs ≡ None → list_any p xs ≡ false
from_none p n [] h = refl
from_none p n (x ∷ xs) h = by (p x) h (from_none p (n + 1) xs)
  where
    by : (b : Bool) → (if b then Some n else position_from p (n + 1) xs) ≡ None → (position_from p (n + 1) xs ≡ None → list_any p xs ≡ false) → (b || list_any p xs) ≡ false
    by true e f = absurd (cc)
    by false e f = f e

from_some : {X : Type 0} (p : X → Bool) (n i : ℕ) (xs : List X) → position_from p n xs ≡ Some i → (j : ℕ) × (x : X) × (i ≡ n + j) × (slice_get xs j ≡ Some x) × (p x ≡ true)
from_some p n i [] h = absurd (cc)
from_some {X} p n i (x ∷ xs) h = by (p x) refl h (from_some p (n + 1) i xs)
  where
    by : (b : Bool) → p x ≡ b → (if b then Some n else position_from p (n + 1) xs) ≡ Some i
        → (position_from p (n + 1) xs ≡ Some i → (j : ℕ) × (x : X) × (i ≡ (n + 1) + j) × (slice_get xs j ≡ Some x) × (p x ≡ true))
        → (j : ℕ) × (y : X) × (i ≡ n + j) × (slice_get (x ∷ xs) j ≡ Some y) × (p y ≡ true)
    by true t e f = let same : n ≡ i = cc in (zero, x, omega arith, refl, t)
    by false t e f = let k = f e in let l = k.2 in (suc k.0, k.1, omega (arith, l), k.3, k.4)

pub place_none : {X : Type 0} (p : X → Bool) (xs : List X) → position p xs ≡ None → list_any p xs ≡ false
place_none p xs h = from_none p 0 xs (sym (position_from-zero p xs) ∙ h)

pub place_some : {X : Type 0} (p : X → Bool) (xs : List X) (i : ℕ) → position p xs ≡ Some i → (x : X) × (slice_get xs i ≡ Some x) × (p x ≡ true)
place_some {X} p xs i h =
    let k = from_some p 0 i xs (sym (position_from-zero p xs) ∙ h) in
    let same : i ≡ k.0 = (let l = k.2 in omega (arith, l)) in
    (k.1, ap (slice_get xs) same ∙ k.3, k.4)

pub any_here : {X : Type 0} (p : X → Bool) (xs : List X) (i : ℕ) (x : X) → slice_get xs i ≡ Some x → p x ≡ true → list_any p xs ≡ true
any_here p [] i x g h = absurd (cc)
any_here p (y ∷ ys) zero x g h = let same : y ≡ x = cc in or_left _ _ (ap p same ∙ h)
any_here p (y ∷ ys) (suc i) x g h = or_right _ _ (any_here p ys i x g h)
