-- Searches in lists, and a change of the first element that passes a test.
use Rattle.std.proofs.Common.{◌≡◌, ℕ, zero, suc, ◌+◌, ◌<◌, ◌≤◌, List, [], ◌∷◌, length, get_or, set, refl, sym, ap, arith, Bool, true, false, subst}
use Rattle.std.specs.Prelude.{nat_lt, ◌||◌, not, Some, None, if◌then◌else◌}
use Rattle.std.specs.List.{find, filter, position, position_or_len, list_any, All, AllPairs}
use Rattle.std.proofs.lemmas.Bool.Decides.{nat_tests}
use Rattle.std.proofs.lemmas.List.Quantifiers.{position-Some}
use Rattle.std.proofs.lemmas.List.Elements.{All-head, All-tail, All-cons}
use Rattle.handle_db.specs.Database.{at_first}

-- a search by place
none_before : {X : Type 0} (test : X → Bool) (xs : List X) → length xs ≤ position_or_len test xs → find test xs ≡ None
none_before test [] h = refl
none_before test (x ∷ xs) h = by (test x) (none_before test xs) h
  where
    by : (b : Bool) → (length xs ≤ position_or_len test xs → find test xs ≡ None) → suc (length xs) ≤ (if not b then 1 + position_or_len test xs else 0) → (if b then Some x else find test xs) ≡ None
    by true more h = absurd (omega arith)
    by false more h = more (omega arith)

pub find_none : {X : Type 0} (test : X → Bool) (xs : List X) → position test xs ≡ None → find test xs ≡ None
find_none {X} test xs e = by (nat_lt (position_or_len test xs) (length xs)) refl e
  where
    by : (b : Bool) → nat_lt (position_or_len test xs) (length xs) ≡ b → (if b then Some (position_or_len test xs) else None) ≡ None → find test xs ≡ None
    by true t h = absurd (cc)
    by false t h = let over : length xs ≤ position_or_len test xs = grind (arith, nat_tests) in none_before test xs over

find_there : {X : Type 0} (test : X → Bool) (xs : List X) (i : ℕ) (d : X) → i < length xs → test (get_or xs i d) ≡ true → ((k : ℕ) → k < i → test (get_or xs k d) ≡ false) → find test xs ≡ Some (get_or xs i d)
find_there test [] i d h t none = absurd (omega arith)
find_there test (x ∷ xs) zero d h t none = rw t refl
find_there test (x ∷ xs) (suc i) d h t none = let first : test x ≡ false = none 0 (omega arith) in rw first (find_there test xs i d (omega arith) t (λ k l. none (suc k) (omega arith)))

pub find_some : {X : Type 0} (test : X → Bool) (xs : List X) (i : ℕ) (d : X) → position test xs ≡ Some i → find test xs ≡ Some (get_or xs i d)
find_some test xs i d e = let p = position-Some test xs i d e in find_there test xs i d p.0 p.1 p.2

pub found_has : {X : Type 0} (P : X → Type 0) (test : X → Bool) (xs : List X) (x : X) → All P xs → find test xs ≡ Some x → P x
found_has P test [] x all e = absurd (cc)
found_has P test (y ∷ ys) x all e = by (test y) (All-head P y ys all) (found_has P test ys x (All-tail P y ys all)) e
  where
    by : (b : Bool) → P y → (find test ys ≡ Some x → P x) → (if b then Some y else find test ys) ≡ Some x → P x
    by true here more h = let same : y ≡ x = cc in subst P same here
    by false here more h = more h

pub none_passes : {X : Type 0} (test : X → Bool) (xs : List X) (k : ℕ) (d : X) → k < length xs → list_any test xs ≡ false → test (get_or xs k d) ≡ false
none_passes test [] k d l e = absurd (omega arith)
none_passes test (x ∷ xs) k d l e = by (test x) refl k l e (λ j m h. none_passes test xs j d m h)
  where
    by : (b : Bool) → test x ≡ b → (k : ℕ) → k < length (x ∷ xs) → (b || list_any test xs) ≡ false → ((j : ℕ) → j < length xs → list_any test xs ≡ false → test (get_or xs j d) ≡ false) → test (get_or (x ∷ xs) k d) ≡ false
    by true t k l h more = absurd (cc)
    by false t zero l h more = t
    by false t (suc k) l h more = more k (omega arith) h

pub none_left : {X : Type 0} (test : X → Bool) (xs : List X) → list_any test (filter (λ x. not (test x)) xs) ≡ false
none_left test [] = refl
none_left test (x ∷ xs) = by (test x) refl (none_left test xs)
  where
    by : (b : Bool) → test x ≡ b → list_any test (filter (λ y. not (test y)) xs) ≡ false → list_any test (if not b then x ∷ filter (λ y. not (test y)) xs else filter (λ y. not (test y)) xs) ≡ false
    by true t more = more
    by false t more = rw t more

-- the first element that passes is changed, by a write at its place
change_there : {X : Type 0} (test : X → Bool) (f : X → X) (xs : List X) (i : ℕ) (d : X) → i < length xs → test (get_or xs i d) ≡ true → ((k : ℕ) → k < i → test (get_or xs k d) ≡ false)
    → at_first test f xs ≡ set xs i (f (get_or xs i d))
unfolding at_first
change_there test f [] i d h t none = absurd (omega arith)
change_there test f (x ∷ xs) zero d h t none = rw t refl
change_there test f (x ∷ xs) (suc i) d h t none =
    let first : test x ≡ false = none 0 (omega arith) in rw first (ap (λ ys. x ∷ ys) (change_there test f xs i d (omega arith) t (λ k l. none (suc k) (omega arith))))

pub change_some : {X : Type 0} (test : X → Bool) (f : X → X) (xs : List X) (i : ℕ) (d : X) → position test xs ≡ Some i → at_first test f xs ≡ set xs i (f (get_or xs i d))
change_some test f xs i d e = let p = position-Some test xs i d e in change_there test f xs i d p.0 p.1 p.2

-- where none passes, nothing changes
pub unchanged : {X : Type 0} (test : X → Bool) (f : X → X) (xs : List X) → find test xs ≡ None → at_first test f xs ≡ xs
unfolding at_first
unchanged test f [] e = refl
unchanged test f (x ∷ xs) e = by (test x) e (unchanged test f xs)
  where
    by : (b : Bool) → (if b then Some x else find test xs) ≡ None → (find test xs ≡ None → at_first test f xs ≡ xs) → (if b then f x ∷ xs else x ∷ at_first test f xs) ≡ x ∷ xs
    by true h more = absurd (cc)
    by false h more = ap (λ ys. x ∷ ys) (more h)

pub length_at : {X : Type 0} (test : X → Bool) (f : X → X) (xs : List X) → length (at_first test f xs) ≡ length xs
unfolding at_first
length_at test f [] = refl
length_at test f (x ∷ xs) = by (test x) (length_at test f xs)
  where
    by : (b : Bool) → length (at_first test f xs) ≡ length xs → length (if b then f x ∷ xs else x ∷ at_first test f xs) ≡ length (x ∷ xs)
    by true e = refl
    by false e = omega (arith, e)

key_at : {X K : Type 0} (key : X → K) (test : X → Bool) (f : X → X) (same : (x : X) → key (f x) ≡ key x) (xs : List X) (i : ℕ) (d : X) → key (get_or (at_first test f xs) i d) ≡ key (get_or xs i d)
unfolding at_first
key_at key test f same [] i d = refl
key_at key test f same (x ∷ xs) i d = by (test x) i (λ j. key_at key test f same xs j d)
  where
    by : (b : Bool) (i : ℕ) → ((j : ℕ) → key (get_or (at_first test f xs) j d) ≡ key (get_or xs j d)) → key (get_or (if b then f x ∷ xs else x ∷ at_first test f xs) i d) ≡ key (get_or (x ∷ xs) i d)
    by true zero e = same x
    by true (suc i) e = refl
    by false zero e = refl
    by false (suc i) e = e i

-- what holds of the keys of each two elements in order
pub pairs_at : {X K : Type 0} (R : K → K → Type 0) (key : X → K) (test : X → Bool) (f : X → X) (same : (x : X) → key (f x) ≡ key x) (xs : List X) → AllPairs (λ a b. R (key a) (key b)) xs → AllPairs (λ a b. R (key a) (key b)) (at_first test f xs)
pairs_at R key test f same xs all = λ i j d l h.
    rw (key_at key test f same xs i d) (rw (key_at key test f same xs j d) (all i j d l (let e = length_at test f xs in omega (arith, e))))

-- what holds of each element
pub all_at : {X : Type 0} (P : X → Type 0) (test : X → Bool) (f : X → X) (xs : List X) → ((x : X) → P x → P (f x)) → All P xs → All P (at_first test f xs)
unfolding at_first
all_at P test f [] keeps all = all
all_at P test f (x ∷ xs) keeps all = by (test x) (All-head P x xs all) (all_at P test f xs keeps (All-tail P x xs all))
  where
    by : (b : Bool) → P x → All P (at_first test f xs) → All P (if b then f x ∷ xs else x ∷ at_first test f xs)
    by true here more = All-cons P (f x) xs (keeps x here) (All-tail P x xs all)
    by false here more = All-cons P x (at_first test f xs) here more

pub all_at_found : {X : Type 0} (P : X → Type 0) (test : X → Bool) (f : X → X) (xs : List X) (x : X) → find test xs ≡ Some x → P (f x) → All P xs → All P (at_first test f xs)
unfolding at_first
all_at_found P test f [] x e there all = all
all_at_found P test f (y ∷ ys) x e there all = by (test y) e (λ h. all_at_found P test f ys x h there (All-tail P y ys all))
  where
    by : (b : Bool) → (if b then Some y else find test ys) ≡ Some x → (find test ys ≡ Some x → All P (at_first test f ys)) → All P (if b then f y ∷ ys else y ∷ at_first test f ys)
    by true h more = let same : y ≡ x = cc in All-cons P (f y) ys (subst (λ z. P (f z)) (sym same) there) (All-tail P y ys all)
    by false h more = All-cons P y (at_first test f ys) (All-head P y ys all) (more h)
