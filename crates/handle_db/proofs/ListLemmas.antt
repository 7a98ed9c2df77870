-- Searches and changes by place.
use Rattle.std.proofs.Common.{◌≡◌, ℕ, zero, suc, ◌+◌, ◌<◌, ◌≤◌, List, [], ◌∷◌, length, get_or, set, refl, sym, ap, ◌∙◌, arith, Bool, true, false, subst}
use Rattle.std.specs.Prelude.{nat_lt, ◌||◌, not, Some, None, if◌then◌else◌}
use Rattle.std.specs.List.{find, filter, position, position_or_len, list_any, list_all, All, AllPairs}
use Rattle.std.proofs.lemmas.Bool.Decides.{nat_tests}
use Rattle.std.proofs.lemmas.List.Quantifiers.{position-Some}
use Rattle.std.specs.Prelude.{◌&&◌}
use Rattle.std.proofs.lemmas.List.Elements.{All-head, All-tail, All-cons}
use Rattle.handle_db.specs.Database.{at_first}

pub place_inside : {X : Type 0} (test : X → Bool) (xs : List X) (i : ℕ) (d : X) → position test xs ≡ Some i → i < length xs
place_inside test xs i d e = (position-Some test xs i d e).0

change_there : {X : Type 0} (test : X → Bool) (f : X → X) (xs : List X) (i : ℕ) (d : X) → i < length xs → test (get_or xs i d) ≡ true → ((k : ℕ) → k < i → test (get_or xs k d) ≡ false)
    → at_first test f xs ≡ set xs i (f (get_or xs i d))
unfolding at_first
change_there test f [] i d h t none = absurd (omega arith)
change_there test f (x ∷ xs) zero d h t none = rw t refl
change_there test f (x ∷ xs) (suc i) d h t none =
    let first : test x ≡ false = none 0 (omega arith) in rw first (ap (λ ys. x ∷ ys) (change_there test f xs i d (omega arith) t (λ k l. none (suc k) (omega arith))))

-- the first element that passes is changed by a write at its place
pub change_some : {X : Type 0} (test : X → Bool) (f : X → X) (xs : List X) (i : ℕ) (d : X) → position test xs ≡ Some i → at_first test f xs ≡ set xs i (f (get_or xs i d))
change_some test f xs i d e = let p = position-Some test xs i d e in change_there test f xs i d p.0 p.1 p.2

any_there : {X : Type 0} (test : X → Bool) (xs : List X) (i : ℕ) (d : X) → i < length xs → test (get_or xs i d) ≡ true → list_any test xs ≡ true
any_there test [] i d h t = absurd (omega arith)
any_there test (x ∷ xs) zero d h t = rw t refl
any_there test (x ∷ xs) (suc i) d h t = by (test x) (any_there test xs i d (omega arith) t)
  where
    by : (b : Bool) → list_any test xs ≡ true → (b || list_any test xs) ≡ true
    by true h = refl
    by false h = h

pub any_some : {X : Type 0} (test : X → Bool) (xs : List X) (i : ℕ) (d : X) → position test xs ≡ Some i → list_any test xs ≡ true
any_some test xs i d e = let p = position-Some test xs i d e in any_there test xs i d p.0 p.1

none_before : {X : Type 0} (test : X → Bool) (xs : List X) → length xs ≤ position_or_len test xs → list_any test xs ≡ false
none_before test [] h = refl
none_before test (x ∷ xs) h = by (test x) (none_before test xs) h
  where
    by : (b : Bool) → (length xs ≤ position_or_len test xs → list_any test xs ≡ false) → suc (length xs) ≤ (if not b then 1 + position_or_len test xs else 0) → (b || list_any test xs) ≡ false
    by true more h = absurd (omega arith)
    by false more h = more (omega arith)

pub any_none : {X : Type 0} (test : X → Bool) (xs : List X) → position test xs ≡ None → list_any test xs ≡ false
any_none {X} test xs e = by (nat_lt (position_or_len test xs) (length xs)) refl e
  where
    by : (b : Bool) → nat_lt (position_or_len test xs) (length xs) ≡ b → (if b then Some (position_or_len test xs) else None) ≡ None → list_any test xs ≡ false
    by true t h = absurd (cc)
    by false t h = let over : length xs ≤ position_or_len test xs = grind (arith, nat_tests) in none_before test xs over

-- searches
pub find_none : {X : Type 0} (test : X → Bool) (xs : List X) → list_any test xs ≡ false → find test xs ≡ None
find_none test [] e = refl
find_none test (x ∷ xs) e = by (test x) (find_none test xs) e
  where
    by : (b : Bool) → (list_any test xs ≡ false → find test xs ≡ None) → (b || list_any test xs) ≡ false → (if b then Some x else find test xs) ≡ None
    by true more h = absurd (cc)
    by false more h = more h

find_there : {X : Type 0} (test : X → Bool) (xs : List X) (i : ℕ) (d : X) → i < length xs → test (get_or xs i d) ≡ true → ((k : ℕ) → k < i → test (get_or xs k d) ≡ false) → find test xs ≡ Some (get_or xs i d)
find_there test [] i d h t none = absurd (omega arith)
find_there test (x ∷ xs) zero d h t none = rw t refl
find_there test (x ∷ xs) (suc i) d h t none = let first : test x ≡ false = none 0 (omega arith) in rw first (find_there test xs i d (omega arith) t (λ k l. none (suc k) (omega arith)))

pub find_some : {X : Type 0} (test : X → Bool) (xs : List X) (i : ℕ) (d : X) → position test xs ≡ Some i → find test xs ≡ Some (get_or xs i d)
find_some test xs i d e = let p = position-Some test xs i d e in find_there test xs i d p.0 p.1 p.2

pub any_found : {X : Type 0} (test : X → Bool) (xs : List X) (x : X) → find test xs ≡ Some x → list_any test xs ≡ true
any_found test [] x e = absurd (cc)
any_found test (y ∷ ys) x e = by (test y) (any_found test ys x) e
  where
    by : (b : Bool) → (find test ys ≡ Some x → list_any test ys ≡ true) → (if b then Some y else find test ys) ≡ Some x → (b || list_any test ys) ≡ true
    by true more h = refl
    by false more h = more h

-- what is found passes
pub found_passes : {X : Type 0} (test : X → Bool) (xs : List X) (x : X) → find test xs ≡ Some x → test x ≡ true
found_passes test [] x e = absurd (cc)
found_passes test (y ∷ ys) x e = by (test y) refl (found_passes test ys x) e
  where
    by : (b : Bool) → test y ≡ b → (find test ys ≡ Some x → test x ≡ true) → (if b then Some y else find test ys) ≡ Some x → test x ≡ true
    by true t more h = let same : y ≡ x = cc in subst (λ z. test z ≡ true) same t
    by false t more h = more h

pub found_has : {X : Type 0} (P : X → Type 0) (test : X → Bool) (xs : List X) (x : X) → All P xs → find test xs ≡ Some x → P x
found_has P test [] x all e = absurd (cc)
found_has P test (y ∷ ys) x all e = by (test y) (All-head P y ys all) (found_has P test ys x (All-tail P y ys all)) e
  where
    by : (b : Bool) → P y → (find test ys ≡ Some x → P x) → (if b then Some y else find test ys) ≡ Some x → P x
    by true here more h = let same : y ≡ x = cc in subst P same here
    by false here more h = more h

-- a filter that takes away what a test finds
pub all_gone : {X : Type 0} (test : X → Bool) (xs : List X) → list_all test xs ≡ true → filter (λ x. not (test x)) xs ≡ []
all_gone test [] e = refl
all_gone test (x ∷ xs) e = by (test x) (all_gone test xs) e
  where
    by : (b : Bool) → (list_all test xs ≡ true → filter (λ y. not (test y)) xs ≡ []) → (b && list_all test xs) ≡ true → (if not b then x ∷ filter (λ y. not (test y)) xs else filter (λ y. not (test y)) xs) ≡ []
    by true more h = more h
    by false more h = absurd (cc)

pub some_left : {X : Type 0} (test : X → Bool) (xs : List X) → list_all test xs ≡ false → 0 < length (filter (λ x. not (test x)) xs)
some_left test [] e = absurd (cc)
some_left test (x ∷ xs) e = by (test x) (some_left test xs) e
  where
    by : (b : Bool) → (list_all test xs ≡ false → 0 < length (filter (λ y. not (test y)) xs)) → (b && list_all test xs) ≡ false → 0 < length (if not b then x ∷ filter (λ y. not (test y)) xs else filter (λ y. not (test y)) xs)
    by true more h = more h
    by false more h = omega arith

-- the first element that passes is changed
pub length_at : {X : Type 0} (test : X → Bool) (f : X → X) (xs : List X) → length (at_first test f xs) ≡ length xs
unfolding at_first
length_at test f [] = refl
length_at test f (x ∷ xs) = by (test x) (length_at test f xs)
  where
    by : (b : Bool) → length (at_first test f xs) ≡ length xs → length (if b then f x ∷ xs else x ∷ at_first test f xs) ≡ length (x ∷ xs)
    by true e = refl
    by false e = omega (arith, e)

pub key_at : {X K : Type 0} (key : X → K) (test : X → Bool) (f : X → X) (same : (x : X) → key (f x) ≡ key x) (xs : List X) (i : ℕ) (d : X) → key (get_or (at_first test f xs) i d) ≡ key (get_or xs i d)
unfolding at_first
key_at key test f same [] i d = refl
key_at key test f same (x ∷ xs) i d = by (test x) i (λ j. key_at key test f same xs j d)
  where
    by : (b : Bool) (i : ℕ) → ((j : ℕ) → key (get_or (at_first test f xs) j d) ≡ key (get_or xs j d)) → key (get_or (if b then f x ∷ xs else x ∷ at_first test f xs) i d) ≡ key (get_or (x ∷ xs) i d)
    by true zero e = same x
    by true (suc i) e = refl
    by false zero e = refl
    by false (suc i) e = e i

-- what holds of the keys of each two elements in order
pub pairs_at : {X K : Type 0} (R : K → K → Type 0) (key : X → K) (test : X → Bool) (f : X → X) (same : (x : X) → key (f x) ≡ key x) (xs : List X) → AllPairs (λ a b. R (key a) (key b)) xs → AllPairs (λ a b. R (key a) (key b)) (at_first test f xs)
pairs_at R key test f same xs all = λ i j d l h.
    rw (key_at key test f same xs i d) (rw (key_at key test f same xs j d) (all i j d l (let e = length_at test f xs in omega (arith, e))))

-- what holds of each element
pub all_at : {X : Type 0} (P : X → Type 0) (test : X → Bool) (f : X → X) (xs : List X) → ((x : X) → P x → P (f x)) → All P xs → All P (at_first test f xs)
unfolding at_first
all_at P test f [] keeps all = all
all_at P test f (x ∷ xs) keeps all = by (test x) (All-head P x xs all) (all_at P test f xs keeps (All-tail P x xs all))
  where
    by : (b : Bool) → P x → All P (at_first test f xs) → All P (if b then f x ∷ xs else x ∷ at_first test f xs)
    by true here more = All-cons P (f x) xs (keeps x here) (All-tail P x xs all)
    by false here more = All-cons P x (at_first test f xs) here more

pub all_at_found : {X : Type 0} (P : X → Type 0) (test : X → Bool) (f : X → X) (xs : List X) (x : X) → find test xs ≡ Some x → P (f x) → All P xs → All P (at_first test f xs)
unfolding at_first
all_at_found P test f [] x e there all = all
all_at_found P test f (y ∷ ys) x e there all = by (test y) e (λ h. all_at_found P test f ys x h there (All-tail P y ys all))
  where
    by : (b : Bool) → (if b then Some y else find test ys) ≡ Some x → (find test ys ≡ Some x → All P (at_first test f ys)) → All P (if b then f y ∷ ys else y ∷ at_first test f ys)
    by true h more = let same : y ≡ x = cc in All-cons P (f y) ys (subst (λ z. P (f z)) (sym same) there) (All-tail P y ys all)
    by false h more = All-cons P y (at_first test f ys) (All-head P y ys all) (more h)

-- a change that depends on the element that is found alone
pub change_found : {X : Type 0} (test : X → Bool) (f g : X → X) (xs : List X) (x : X) → find test xs ≡ Some x → f x ≡ g x → at_first test f xs ≡ at_first test g xs
unfolding at_first
change_found test f g [] x e same = refl
change_found test f g (y ∷ ys) x e same = by (test y) e (λ h. change_found test f g ys x h same)
  where
    by : (b : Bool) → (if b then Some y else find test ys) ≡ Some x → (find test ys ≡ Some x → at_first test f ys ≡ at_first test g ys) → (if b then f y ∷ ys else y ∷ at_first test f ys) ≡ (if b then g y ∷ ys else y ∷ at_first test g ys)
    by true h more = let is : y ≡ x = cc in ap (λ z. z ∷ ys) (ap f is ∙ same ∙ ap g (sym is))
    by false h more = ap (λ zs. y ∷ zs) (more h)

pub none_passes : {X : Type 0} (test : X → Bool) (xs : List X) (k : ℕ) (d : X) → k < length xs → list_any test xs ≡ false → test (get_or xs k d) ≡ false
none_passes test [] k d l e = absurd (omega arith)
none_passes test (x ∷ xs) k d l e = by (test x) refl k l e (λ j m h. none_passes test xs j d m h)
  where
    by : (b : Bool) → test x ≡ b → (k : ℕ) → k < length (x ∷ xs) → (b || list_any test xs) ≡ false → ((j : ℕ) → j < length xs → list_any test xs ≡ false → test (get_or xs j d) ≡ false) → test (get_or (x ∷ xs) k d) ≡ false
    by true t k l h more = absurd (cc)
    by false t zero l h more = t
    by false t (suc k) l h more = more k (omega arith) h

pub kept_count : {X : Type 0} (test : X → Bool) (xs : List X) → length (filter test xs) ≤ length xs
kept_count test [] = omega arith
kept_count test (x ∷ xs) = by (test x) (kept_count test xs)
  where
    by : (b : Bool) → length (filter test xs) ≤ length xs → length (if b then x ∷ filter test xs else filter test xs) ≤ length (x ∷ xs)
    by true e = omega (arith, e)
    by false e = omega (arith, e)

-- where none passes, nothing changes
pub unchanged : {X : Type 0} (test : X → Bool) (f : X → X) (xs : List X) → find test xs ≡ None → at_first test f xs ≡ xs
unfolding at_first
unchanged test f [] e = refl
unchanged test f (x ∷ xs) e = by (test x) e (unchanged test f xs)
  where
    by : (b : Bool) → (if b then Some x else find test xs) ≡ None → (find test xs ≡ None → at_first test f xs ≡ xs) → (if b then f x ∷ xs else x ∷ at_first test f xs) ≡ x ∷ xs
    by true h more = absurd (cc)
    by false h more = ap (λ ys. x ∷ ys) (more h)

pub none_left : {X : Type 0} (test : X → Bool) (xs : List X) → list_any test (filter (λ x. not (test x)) xs) ≡ false
none_left test [] = refl
none_left test (x ∷ xs) = by (test x) refl (none_left test xs)
  where
    by : (b : Bool) → test x ≡ b → list_any test (filter (λ y. not (test y)) xs) ≡ false → list_any test (if not b then x ∷ filter (λ y. not (test y)) xs else filter (λ y. not (test y)) xs) ≡ false
    by true t more = more
    by false t more = rw t more

pub fewer_left : {X : Type 0} (test : X → Bool) (xs : List X) → list_any test xs ≡ true → length (filter (λ x. not (test x)) xs) < length xs
fewer_left test [] e = absurd (cc)
fewer_left test (x ∷ xs) e = by (test x) e (fewer_left test xs) (kept_count (λ y. not (test y)) xs)
  where
    by : (b : Bool) → (b || list_any test xs) ≡ true → (list_any test xs ≡ true → length (filter (λ y. not (test y)) xs) < length xs) → length (filter (λ y. not (test y)) xs) ≤ length xs → length (if not b then x ∷ filter (λ y. not (test y)) xs else filter (λ y. not (test y)) xs) < length (x ∷ xs)
    by true h more all = omega (arith, all)
    by false h more all = let l = more h in omega (arith, l)

pub any_both : {X : Type 0} (p q : X → Bool) (xs : List X) → list_any (λ x. p x && q x) xs ≡ true → list_any p xs ≡ true
any_both p q [] e = e
any_both p q (x ∷ xs) e = by (p x) (q x) e (any_both p q xs)
  where
    by : (a b : Bool) → (a && b || list_any (λ y. p y && q y) xs) ≡ true → (list_any (λ y. p y && q y) xs ≡ true → list_any p xs ≡ true) → (a || list_any p xs) ≡ true
    by true b h more = refl
    by false b h more = more h
