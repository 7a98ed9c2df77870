-- Marks of nodes.
use Rattle.std.proofs.Common.{◌≡◌, ℕ, zero, suc, ◌≤◌, ◌<◌, ◌+◌, ◌⊎◌, arith, Bool, true, false, refl, sym, ◌∙◌, ap, subst, Some, None, Option, List, [], ◌∷◌, ◌++◌, length, take, inl, inr}
use Rattle.std.specs.Prelude.{slice_get, slice_set, replicate, nat_lt, ◌||◌}
use Rattle.std.specs.List.{Contains}
use Rattle.std.proofs.lemmas.Bool.Decides.{nat_tests}
use Rattle.std.proofs.lemmas.List.{length-set}
use Rattle.std.proofs.lemmas.Option.{slice_get-get_or, slice_get_within, get_or_from_slice_get}
use Rattle.prov_cert.specs.Cert.{Node}
use Rattle.provenance_check.specs.Rules.{is_marked}
use Rattle.provenance_check.specs.Reached.{AreMarked, AreReached, IsClosedAt, MarkedTo, MarksReached, NextMarked, Reached, SpreadTo, begins, goes_on, next_in, next_of, one_if, unmarked}

-- a mark at an index that has none
set_keeps : (marks : List Bool) (n k : ℕ) → is_marked marks k ≡ true → is_marked (slice_set marks n true) k ≡ true
set_keeps [] n k h = h
set_keeps (b ∷ bs) zero zero h = refl
set_keeps (b ∷ bs) zero (suc k) h = h
set_keeps (b ∷ bs) (suc n) zero h = h
set_keeps (b ∷ bs) (suc n) (suc k) h = set_keeps bs n k h

set_only : (marks : List Bool) (n k : ℕ) → is_marked (slice_set marks n true) k ≡ true → (is_marked marks k ≡ true) ⊎ (n ≡ k)
set_only [] n k h = inl h
set_only (b ∷ bs) zero zero h = inr refl
set_only (b ∷ bs) zero (suc k) h = inl h
set_only (b ∷ bs) (suc n) zero h = inl h
set_only (b ∷ bs) (suc n) (suc k) h = by (set_only bs n k h)
  where
    by : (is_marked bs k ≡ true) ⊎ (n ≡ k) → (is_marked bs k ≡ true) ⊎ (suc n ≡ suc k)
    by (inl a) = inl a
    by (inr e) = inr (ap suc e)

set_marks : (marks : List Bool) (n : ℕ) → n < length marks → is_marked (slice_set marks n true) n ≡ true
set_marks [] n h = absurd (omega arith)
set_marks (b ∷ bs) zero h = refl
set_marks (b ∷ bs) (suc n) h = set_marks bs n (omega (arith, h))

set_fewer : (marks : List Bool) (n : ℕ) → n < length marks → is_marked marks n ≡ false → unmarked (slice_set marks n true) + 1 ≡ unmarked marks
set_fewer [] n h e = absurd (omega arith)
set_fewer (true ∷ bs) zero h e = absurd cc
set_fewer (false ∷ bs) zero h e = omega arith
set_fewer (true ∷ bs) (suc n) h e = set_fewer bs n (omega (arith, h)) e
set_fewer (false ∷ bs) (suc n) h e = let f = set_fewer bs n (omega (arith, h)) e in omega (arith, f)

of_one : (m i n : ℕ) → i < 1 → slice_get (m ∷ []) i ≡ Some n → m ≡ n
of_one m zero n h e = cc
of_one m (suc i) n h e = absurd (omega arith)

pub marks_new : (marks : List Bool) (n : ℕ) → n < length marks → is_marked marks n ≡ false → MarkedTo 1 (n ∷ []) marks (slice_set marks n true) true
marks_new marks n h e = record {
  long = length-set marks n true;
  keeps = set_keeps marks n;
  only = λ k m. by k (set_only marks n k m);
  each = λ i k l q _. let z = of_one n i k l q in subst (λ x. is_marked (slice_set marks n true) x ≡ true) z (set_marks marks n h);
  fewer = let f = set_fewer marks n h e in omega (arith, f);
  same = λ f. absurd cc;
}
  where
    by : (k : ℕ) → (is_marked marks k ≡ true) ⊎ (n ≡ k) → (is_marked marks k ≡ true) ⊎ Contains (n ∷ []) k
    by k (inl a) = inl a
    by k (inr q) = inr (0, omega arith, q)

pub marks_old : (marks : List Bool) (numbers : List ℕ) (n : ℕ) → (n < length marks → is_marked marks n ≡ true) → MarkedTo 1 (n ∷ []) marks marks false
marks_old marks numbers n h = record {
  long = refl;
  keeps = λ k m. m;
  only = λ k m. inl m;
  each = λ i k l q r. let z = of_one n i k l q in subst (λ x. x < length marks → is_marked marks x ≡ true) z h r;
  fewer = omega arith;
  same = λ e. refl;
}

-- nothing yet
pub marks_none : (numbers : List ℕ) (marks : List Bool) → MarkedTo 0 numbers marks marks false
marks_none numbers marks = record { long = refl; keeps = λ k m. m; only = λ k m. inl m; each = λ i k l q r. absurd (omega arith); fewer = omega arith; same = λ e. refl }

sum_or : (a b : Bool) (x y z : ℕ) → y + one_if a ≤ x → z + one_if b ≤ y → z + one_if (a || b) ≤ x
sum_or true true x y z h k = omega (arith, h, k)
sum_or true false x y z h k = omega (arith, h, k)
sum_or false true x y z h k = omega (arith, h, k)
sum_or false false x y z h k = omega (arith, h, k)

first_no : (a b : Bool) → (a || b) ≡ false → a ≡ false
first_no true b e = e
first_no false b e = refl

second_no : (a b : Bool) → (a || b) ≡ false → b ≡ false
second_no true b e = absurd cc
second_no false b e = e

-- one more
pub marks_more : (count : ℕ) (numbers : List ℕ) (x : ℕ) (a b c : List Bool) (m k : Bool) → slice_get numbers count ≡ Some x → MarkedTo count numbers a b m → MarkedTo 1 (x ∷ []) b c k → MarkedTo (count + 1) numbers a c (m || k)
marks_more count numbers x a b c m k at h g = record {
  long = g.long ∙ h.long;
  keeps = λ n e. g.keeps n (h.keeps n e);
  only = λ n e. by n (g.only n e);
  each = λ i n l q r. each i n (nat_lt i count) refl l q r;
  fewer = sum_or m k (unmarked a) (unmarked b) (unmarked c) h.fewer g.fewer;
  same = λ e. g.same (second_no m k e) ∙ h.same (first_no m k e);
}
  where
    within : count < length numbers
    within = slice_get_within numbers count x at

    by : (n : ℕ) → (is_marked b n ≡ true) ⊎ Contains (x ∷ []) n → (is_marked a n ≡ true) ⊎ Contains numbers n
    by n (inl e) = h.only n e
    by n (inr (zero, l, q)) = inr (count, within, get_or_from_slice_get numbers count x n at ∙ q)
    by n (inr (suc i, l, q)) = absurd (omega (arith, l))

    each : (i n : ℕ) → (t : Bool) → nat_lt i count ≡ t → i < count + 1 → slice_get numbers i ≡ Some n → n < length c → is_marked c n ≡ true
    each i n true e l q r = let s = g.long in g.keeps n (h.each i n (grind (arith, nat_tests)) q (omega (arith, r, s)))
    each i n false e l q r =
        let j : count ≤ i = grind (arith, nat_tests) in
        let z : i ≡ count = omega (arith, j, l) in
        let f : Some x ≡ Some n = sym at ∙ sym (ap (slice_get numbers) z) ∙ q in
        let y : x ≡ n = cc in
        g.each 0 n (omega arith) (ap Some y) r

-- one node

pub next_none : (n : ℕ) (nodes : List Node) (marks : List Bool) → is_marked marks n ≡ false → NextMarked n nodes marks marks false
next_none n nodes marks e = record {
  long = refl;
  keeps = λ k m. m;
  sound = λ starts h. h;
  fewer = omega arith;
  closed = λ f g. absurd cc;
  same = λ f. refl;
}

pub next_all : (n : ℕ) (nodes : List Node) (node : Node) (a b : List Bool) (more : Bool) → slice_get nodes n ≡ Some node → is_marked a n ≡ true → MarkedTo (length node.next) node.next a b more → NextMarked n nodes a b more
next_all n nodes node a b more at e h = record {
  long = h.long;
  keeps = h.keeps;
  sound = λ starts r k m. sound starts r k (h.only k m);
  fewer = h.fewer;
  closed = λ f g k c l.
      let d : Contains node.next k = subst (λ o. Contains (next_in o) k) at c in
      h.each d.0 k d.1 (slice_get-get_or node.next d.0 k d.1 ∙ ap Some d.2) l;
  same = h.same;
}
  where
    sound : (starts : List ℕ) → AreReached nodes starts a → (k : ℕ) → (is_marked a k ≡ true) ⊎ Contains node.next k → Reached nodes starts k
    sound starts r k (inl m) = r k m
    sound starts r k (inr c) = goes_on n k (r n e) (subst (λ o. Contains (next_in o) k) (sym at) c)

pub spread_none : (nodes : List Node) (marks : List Bool) → SpreadTo 0 nodes marks marks false
spread_none nodes marks = record { long = refl; keeps = λ k m. m; sound = λ starts h. h; fewer = omega arith; closed = λ e m l. absurd (omega arith); same = λ e. refl }

pub spread_more : (count : ℕ) (nodes : List Node) (a b c : List Bool) (m k : Bool) → SpreadTo count nodes a b m → NextMarked count nodes b c k → SpreadTo (count + 1) nodes a c (m || k)
spread_more count nodes a b c m k h g = record {
  long = g.long ∙ h.long;
  keeps = λ n e. g.keeps n (h.keeps n e);
  sound = λ starts r. g.sound starts (h.sound starts r);
  fewer = sum_or m k (unmarked a) (unmarked b) (unmarked c) h.fewer g.fewer;
  closed = λ e n l. closed n (nat_lt n count) refl (first_no m k e) (second_no m k e) l;
  same = λ e. g.same (second_no m k e) ∙ h.same (first_no m k e);
}
  where
    closed : (n : ℕ) (t : Bool) → nat_lt n count ≡ t → m ≡ false → k ≡ false → n < count + 1 → IsClosedAt nodes c n
    closed n true e f i l = subst (λ x. IsClosedAt nodes x n) (sym (g.same i)) (h.closed f n (grind (arith, nat_tests)))
    closed n false e f i l =
        let j : count ≤ n = grind (arith, nat_tests) in
        let z : count ≡ n = omega (arith, j, l) in
        subst (IsClosedAt nodes c) z (g.closed i)

-- What is marked once nothing is new.

pub starts_reached : (nodes : List Node) (starts : List ℕ) (a b : List Bool) (more : Bool) → ((n : ℕ) → is_marked a n ≡ false) → MarkedTo (length starts) starts a b more → AreReached nodes starts b
starts_reached nodes starts a b more none h n e = by (h.only n e)
  where
    by : (is_marked a n ≡ true) ⊎ Contains starts n → Reached nodes starts n
    by (inl f) = let g = none n in absurd cc
    by (inr c) = begins n c

pub starts_marked : (starts : List ℕ) (a b : List Bool) (more : Bool) → MarkedTo (length starts) starts a b more → AreMarked b starts
starts_marked starts a b more h n c l = h.each c.0 n c.1 (slice_get-get_or starts c.0 n c.1 ∙ ap Some c.2) l

pub stays_marked : (nodes : List Node) (numbers : List ℕ) (a b : List Bool) (more : Bool) (count : ℕ) → SpreadTo count nodes a b more → AreMarked a numbers → AreMarked b numbers
stays_marked nodes numbers a b more count h m n c l = let e = h.long in h.keeps n (m n c (omega (arith, l, e)))

inside : (nodes : List Node) (m n : ℕ) → Contains (next_of nodes m) n → m < length nodes
inside nodes m n c = by (slice_get nodes m) refl c
  where
    by : (o : Option Node) → slice_get nodes m ≡ o → Contains (next_in o) n → m < length nodes
    by None e d = let l = d.1 in absurd (omega (arith, l))
    by (Some node) e d = slice_get_within nodes m node e

complete : (nodes : List Node) (starts : List ℕ) (marks : List Bool) → length marks ≡ length nodes → AreMarked marks starts → ((m : ℕ) → m < length nodes → IsClosedAt nodes marks m) → (n : ℕ) → Reached nodes starts n → n < length nodes → is_marked marks n ≡ true
complete nodes starts marks long s closed k (begins n c) l = s n c (omega (arith, l, long))
complete nodes starts marks long s closed k (goes_on m n r c) l =
    let i = inside nodes m n c in
    closed m i (complete nodes starts marks long s closed m r i) n c (omega (arith, l, long))

pub all_reached : (nodes : List Node) (starts : List ℕ) (marks : List Bool) → length marks ≡ length nodes → AreReached nodes starts marks → AreMarked marks starts → ((m : ℕ) → m < length nodes → IsClosedAt nodes marks m) → MarksReached nodes starts marks
all_reached nodes starts marks long r s closed = (long, λ n l. (λ e. r n e, λ e. complete nodes starts marks long s closed n e l))

pub none_marked : (n k : ℕ) → is_marked (replicate n false) k ≡ false
none_marked zero k = refl
none_marked (suc n) zero = refl
none_marked (suc n) (suc k) = none_marked n k

take_front : (xs zs : List Bool) → take (length xs) (xs ++ zs) ≡ xs
take_front [] zs = refl
take_front (x ∷ xs) zs = ap (λ ys. x ∷ ys) (take_front xs zs)

-- a list written back over one of the same length
pub written_back : (n : ℕ) (xs zs : List Bool) → n ≡ length xs → take n (xs ++ zs) ≡ xs
written_back n xs zs e = ap (λ k. take k (xs ++ zs)) e ∙ take_front xs zs
