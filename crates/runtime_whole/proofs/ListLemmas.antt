-- Lists with a part of them made the same.
use Rattle.std.proofs.Common.{◌≡◌, ◌⊎◌, ℕ, zero, suc, ◌+◌, ◌≤◌, ◌<◌, Bool, true, false, List, [], ◌∷◌, ◌++◌, length, take, drop, replicate, refl, ap, subst, arith, inl, inr, Some, length-append, length-drop}
use Rattle.std.specs.Prelude.{find, slice_get, slice_set, if◌then◌else◌}
use Rattle.std.specs.List.{All, filter}
use Rattle.std.proofs.lemmas.List.{length-replicate, length-take}
use Rattle.guest_memory.specs.Lists.{filled}
use Rattle.guest_memory.specs.Pages.{or_false}

in_first : {X : Type 0} (n : ℕ) (x : X) (ys : List X) (k : ℕ) → k < n → slice_get (replicate n x ++ ys) k ≡ Some x
in_first zero x ys k l = absurd (omega arith)
in_first (suc n) x ys zero l = refl
in_first (suc n) x ys (suc k) l = in_first n x ys k (omega arith)

-- what is there, among those that are made the same, is made so
pub inside : {X : Type 0} (xs zs : List X) (i n k : ℕ) (x y : X) → slice_get xs k ≡ Some y → i ≤ k → k < i + n → slice_get (take i xs ++ (replicate n x ++ zs)) k ≡ Some x
inside [] zs i n k x y e low high = let bad : ⊥ = cc in absurd bad
inside (w ∷ ws) zs zero n k x y e low high = in_first n x zs k (omega arith)
inside (w ∷ ws) zs (suc i) n zero x y e low high = absurd (omega arith)
inside (w ∷ ws) zs (suc i) n (suc k) x y e low high = inside ws zs i n k x y e (omega arith) (omega arith)

beyond : {X : Type 0} (xs : List X) (n k : ℕ) (x y : X) → slice_get xs k ≡ Some y → n ≤ k → slice_get (replicate n x ++ drop n xs) k ≡ Some y
beyond xs zero k x y e l = e
beyond [] (suc n) k x y e l = let bad : ⊥ = cc in absurd bad
beyond (w ∷ ws) (suc n) zero x y e l = absurd (omega arith)
beyond (w ∷ ws) (suc n) (suc k) x y e l = beyond ws n k x y e (omega arith)

-- what is there, apart from those, stays
pub outside : {X : Type 0} (xs : List X) (i n k : ℕ) (x y : X) → slice_get xs k ≡ Some y → (k < i) ⊎ (i + n ≤ k) → slice_get (filled xs i n x) k ≡ Some y
outside xs zero n k x y e (inl before) = absurd (omega arith)
outside xs zero n k x y e (inr behind) = beyond xs n k x y e (omega arith)
outside [] (suc i) n k x y e w = let bad : ⊥ = cc in absurd bad
outside (v ∷ vs) (suc i) n zero x y e w = e
outside (v ∷ vs) (suc i) n (suc k) x y e (inl before) = outside vs i n k x y e (inl (omega arith))
outside (v ∷ vs) (suc i) n (suc k) x y e (inr behind) = outside vs i n k x y e (inr (omega arith))

pub there : (marks : List Bool) (k : ℕ) → or_false (slice_get marks k) ≡ true → slice_get marks k ≡ Some true
there [] k h = let bad : ⊥ = cc in absurd bad
there (mark ∷ marks) zero h = ap Some h
there (mark ∷ marks) (suc k) h = there marks k h

pub set_keeps : (marks : List Bool) (i k : ℕ) → or_false (slice_get marks k) ≡ true → or_false (slice_get (slice_set marks i true) k) ≡ true
set_keeps [] i k h = h
set_keeps (mark ∷ marks) zero zero h = refl
set_keeps (mark ∷ marks) zero (suc k) h = h
set_keeps (mark ∷ marks) (suc i) zero h = h
set_keeps (mark ∷ marks) (suc i) (suc k) h = set_keeps marks i k h

pub exists : {X : Type 0} (xs : List X) (k : ℕ) → k < length xs → (x : X) × (slice_get xs k ≡ Some x)
exists [] k l = absurd (omega arith)
exists (x ∷ xs) zero l = (x, refl)
exists (x ∷ xs) (suc k) l = exists xs k (omega arith)

-- no list gets shorter
pub still_there : {X : Type 0} (xs : List X) (i n k : ℕ) (x : X) → k < length xs → k < length (filled xs i n x)
still_there xs i n k x l =
    let a = length-append (take i xs) (replicate n x ++ drop n (drop i xs)) in
    let b = length-append (replicate n x) (drop n (drop i xs)) in
    let c = length-take i xs in
    let d = length-replicate n x in
    let e = length-drop n (drop i xs) in
    let f = length-drop i xs in
    omega (arith, a, b, c, d, e, f, l)

pub few_left : {X : Type 0} (p : X → Bool) (xs : List X) → length (filter p xs) ≤ length xs
few_left p [] = omega arith
few_left p (x ∷ xs) = by (p x) (few_left p xs)
  where
    by : (b : Bool) → length (filter p xs) ≤ length xs → length (if b then x ∷ filter p xs else filter p xs) ≤ suc (length xs)
    by true h = omega (arith, h)
    by false h = omega (arith, h)

pub all_cons : {X : Type 0} (P : X → Type 0) (x : X) (xs : List X) → P x → All P xs → All P (x ∷ xs)
all_cons P x xs p all zero d l = p
all_cons P x xs p all (suc k) d l = all k d (omega (arith, l))

-- what is found is so as all are
pub found_all : {X : Type 0} (P : X → Type 0) (test : X → Bool) (xs : List X) (x : X) → All P xs → find test xs ≡ Some x → P x
found_all P test [] x all e = let bad : ⊥ = cc in absurd bad
found_all P test (y ∷ ys) x all e = by (test y) e (λ h. found_all P test ys x (λ k d l. all (suc k) d (omega (arith, l))) h)
  where
    by : (b : Bool) → (if b then Some y else find test ys) ≡ Some x → (find test ys ≡ Some x → P x) → P x
    by true h rest = let same : y ≡ x = cc in subst P same (all 0 y (omega arith))
    by false h rest = rest h
