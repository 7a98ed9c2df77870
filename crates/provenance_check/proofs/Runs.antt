-- Tests at many numbers.
use Rattle.std.proofs.Common.{◌≡◌, ℕ, zero, suc, ◌≤◌, ◌<◌, ◌+◌, ◌-◌, ◌*◌, ◌/◌, ◌%◌, arith, Bool, true, false, refl, ◌∙◌, ap, Some, None}
use Rattle.std.specs.Prelude.{◌&&◌, if◌then◌else◌, nat_le, slice_index}
use Rattle.std.proofs.lemmas.Bool.Decides.{nat_tests}
use Rattle.std.proofs.Math.Nat.{add-mul, div-mul-le_self, mod-eq-sub-div-mul}
use Rattle.prov_types.specs.declared.kinds.Span.{Span}
use Rattle.prov_types.specs.Spans.{IsProper}
use Rattle.prov_types.specs.Kinds.{length_of}
use Rattle.prov_layout.specs.Offsets.{every, count, at_each}
use Rattle.provenance_check.specs.Ground.{Ground}
use Rattle.provenance_check.specs.Entries.{EachPasses, FirstFails, NoneFails, first_from}
use Rattle.provenance_check.specs.Accesses.{is_allowed}

pub both : (a b : Bool) → (a && b) ≡ true → (a ≡ true) × (b ≡ true)
both true true e = (refl, refl)
both true false e = absurd cc
both false b e = absurd cc

pub and_false : (a b : Bool) → b ≡ false → (a && b) ≡ false
and_false true b k = k
and_false false b k = refl

pub le_of : (a b : ℕ) → nat_le a b ≡ true → a ≤ b
le_of a b e = grind (arith, nat_tests)

pub is_le : (a b : ℕ) → a ≤ b → nat_le a b ≡ true
is_le a b e = grind (arith, nat_tests)

pub every_of : (test : ℕ → Bool) (lo by n : ℕ) → ((i : ℕ) → i < n → test (lo + i * by) ≡ true) → every test lo by n ≡ true
unfolding every
every_of test lo by zero h = refl
every_of test lo by (suc n) h =
    let z : lo ≡ lo + 0 * by = omega arith in
    let a : test lo ≡ true = ap test z ∙ h 0 (omega arith) in
    rw a (every_of test (lo + by) by n (λ i k. let e : lo + by + i * by ≡ lo + suc i * by = omega arith in ap test e ∙ h (suc i) (omega arith)))

pub not_every : (test : ℕ → Bool) (lo by n i : ℕ) → i < n → test (lo + i * by) ≡ false → every test lo by n ≡ false
unfolding every
not_every test lo by zero i h e = absurd (omega arith)
not_every test lo by (suc n) zero h e = let z : lo ≡ lo + 0 * by = omega arith in let a : test lo ≡ false = ap test z ∙ e in rw a refl
not_every test lo by (suc n) (suc i) h e =
    let z : lo + by + i * by ≡ lo + suc i * by = omega arith in
    and_false (test lo) _ (not_every test (lo + by) by n i (omega arith) (ap test z ∙ e))

pub of_every : (test : ℕ → Bool) (lo by n i : ℕ) → every test lo by n ≡ true → i < n → test (lo + i * by) ≡ true
unfolding every
of_every test lo by zero i e h = absurd (omega arith)
of_every test lo by (suc n) zero e h = let z : lo + 0 * by ≡ lo = omega arith in ap test z ∙ (both _ _ e).0
of_every test lo by (suc n) (suc i) e h =
    let z : lo + suc i * by ≡ lo + by + i * by = omega arith in ap test z ∙ of_every test (lo + by) by n i (both _ _ e).1 (omega arith)

-- of consecutive numbers from 0 on
pub all_below : (test : ℕ → Bool) (n : ℕ) → ((i : ℕ) → i < n → test i ≡ true) → every test 0 1 n ≡ true
all_below test n h = every_of test 0 1 n (λ i k. let z : 0 + i * 1 ≡ i = omega arith in ap test z ∙ h i k)

pub one_below : (test : ℕ → Bool) (n i : ℕ) → i < n → test i ≡ false → every test 0 1 n ≡ false
one_below test n i k e = not_every test 0 1 n i k (let z : 0 + i * 1 ≡ i = omega arith in ap test z ∙ e)

-- of consecutive numbers from one on
pub all_from : (test : ℕ → Bool) (lo n : ℕ) → ((i : ℕ) → i < n → test (lo + i) ≡ true) → every test lo 1 n ≡ true
all_from test lo n h = every_of test lo 1 n (λ i k. let z : lo + i * 1 ≡ lo + i = omega arith in ap test z ∙ h i k)

pub one_from : (test : ℕ → Bool) (lo n i : ℕ) → i < n → test (lo + i) ≡ false → every test lo 1 n ≡ false
one_from test lo n i k e = not_every test lo 1 n i k (let z : lo + i * 1 ≡ lo + i = omega arith in ap test z ∙ e)

mul_le : (a b k : ℕ) → a ≤ b → a * k ≤ b * k
mul_le a b k l = let x : b ≡ a + (b - a) = omega arith in let y : b * k ≡ a * k + (b - a) * k = ap (λ n. n * k) x ∙ add-mul a (b - a) k in omega (arith, y)

-- an access to all bytes from the first of a span's offsets on is one at each of them
pub whole_range : (g : Ground) (right : ℕ → Bool) (r : ℕ) (s : Span) (width : ℕ) → s.lo ≤ s.hi → is_allowed g right r (s.hi - s.lo + width) s.lo ≡ true → every (is_allowed g right r width) s.lo s.by (count s) ≡ true
whole_range g right r s width order h =
    every_of (is_allowed g right r width) s.lo s.by (count s) (λ i k.
    let m : i * s.by ≤ (s.hi - s.lo) / s.by * s.by = mul_le i ((s.hi - s.lo) / s.by) s.by (omega (arith, k)) in
    let d : (s.hi - s.lo) / s.by * s.by ≤ s.hi - s.lo = div-mul-le_self (s.hi - s.lo) s.by in
    let a = both _ _ h in
    let l : s.lo + (s.hi - s.lo + width) ≤ length_of g.lens r = le_of (s.lo + (s.hi - s.lo + width)) (length_of g.lens r) a.0 in
    let x : nat_le (s.lo + i * s.by + width) (length_of g.lens r) ≡ true = is_le (s.lo + i * s.by + width) (length_of g.lens r) (omega (arith, l, m, d, order)) in
    rw x (every_of right (slice_index g.starts r + (s.lo + i * s.by)) 1 width (λ j q.
    let e : slice_index g.starts r + (s.lo + i * s.by) + j * 1 ≡ slice_index g.starts r + s.lo + (i * s.by + j) * 1 = omega arith in
    ap right e ∙ of_every right (slice_index g.starts r + s.lo) 1 (s.hi - s.lo + width) (i * s.by + j) a.1 (omega (arith, m, d, q)))))

-- the last of a span's numbers
last_is : (s : Span) → IsProper s → s.lo + (s.hi - s.lo) / s.by * s.by ≡ s.hi
last_is s p =
    let m : (s.hi - s.lo) % s.by ≡ s.hi - s.lo - (s.hi - s.lo) / s.by * s.by = mod-eq-sub-div-mul (s.hi - s.lo) s.by in
    let d : (s.hi - s.lo) / s.by * s.by ≤ s.hi - s.lo = div-mul-le_self (s.hi - s.lo) s.by in
    let w = p.whole in let o = p.order in
    omega (arith, m, d, w, o)

-- an access that ends behind the region at the last offset
pub ends_outside : (g : Ground) (right : ℕ → Bool) (r : ℕ) (s : Span) (width : ℕ) → IsProper s → length_of g.lens r < s.hi + width → every (is_allowed g right r width) s.lo s.by (count s) ≡ false
ends_outside g right r s width p h =
    not_every (is_allowed g right r width) s.lo s.by (count s) ((s.hi - s.lo) / s.by) (omega arith)
    (let e : nat_le (s.lo + (s.hi - s.lo) / s.by * s.by + width) (length_of g.lens r) ≡ false = let l = last_is s p in let k : length_of g.lens r < s.lo + (s.hi - s.lo) / s.by * s.by + width = omega (arith, l, h) in grind (arith, nat_tests) in rw e refl)

every_both : (f g : ℕ → Bool) (lo by n : ℕ) → every (λ o. f o && g o) lo by n ≡ (every f lo by n && every g lo by n)
unfolding every
every_both f g lo by zero = refl
every_both f g lo by (suc n) = rw (every_both f g (lo + by) by n) (swap (f lo) (g lo) (every f (lo + by) by n) (every g (lo + by) by n))
  where
    swap : (a b c d : Bool) → ((a && b) && (c && d)) ≡ ((a && c) && (b && d))
    swap true true c d = refl
    swap true false true d = refl
    swap true false false d = refl
    swap false b c d = refl

pub at_each_both : (f g : ℕ → Bool) (s : Span) → at_each (λ o. f o && g o) s ≡ (at_each f s && every g s.lo s.by (count s))
unfolding at_each
at_each_both f g s = rw (every_both f g s.lo s.by (count s)) (turn (nat_le (count s) 65536) (every f s.lo s.by (count s)) (every g s.lo s.by (count s)))
  where
    turn : (a b c : Bool) → (a && (b && c)) ≡ ((a && b) && c)
    turn true b c = refl
    turn false b c = refl

-- the first number at which a test fails

pub none_from : (test : ℕ → Bool) (i n : ℕ) → ((k : ℕ) → k < n → test (i + k) ≡ true) → first_from test i n ≡ None
unfolding first_from
none_from test i zero h = refl
none_from test i (suc n) h =
    let z : i ≡ i + 0 = omega arith in
    let a : test i ≡ true = ap test z ∙ h 0 (omega arith) in
    rw a (none_from test (i + 1) n (λ k l. let e : i + 1 + k ≡ i + suc k = omega arith in ap test e ∙ h (suc k) (omega (arith, l))))

pub fails_from : (test : ℕ → Bool) (i n m : ℕ) → m < n → ((k : ℕ) → k < m → test (i + k) ≡ true) → test (i + m) ≡ false → first_from test i n ≡ Some (i + m)
unfolding first_from
fails_from test i zero m l h e = absurd (omega arith)
fails_from test i (suc n) zero l h e =
    let z : i ≡ i + 0 = omega arith in
    let a : test i ≡ false = ap test z ∙ e in
    rw a (ap Some z)
fails_from test i (suc n) (suc m) l h e =
    let z : i ≡ i + 0 = omega arith in
    let a : test i ≡ true = ap test z ∙ h 0 (omega arith) in
    let y : i + 1 + m ≡ i + suc m = omega arith in
    rw a (fails_from test (i + 1) n m (omega (arith, l)) (λ k q. let w : i + 1 + k ≡ i + suc k = omega arith in ap test w ∙ h (suc k) (omega (arith, q))) (ap test y ∙ e) ∙ ap Some y)

passes_from : (test : ℕ → Bool) (i n k : ℕ) → first_from test i n ≡ None → k < n → test (i + k) ≡ true
unfolding first_from
passes_from test i zero k h l = absurd (omega arith)
passes_from test i (suc n) k h l = by (λ m g q. passes_from test (i + 1) n m g q) k l (test i) refl h
  where
    by : ((m : ℕ) → first_from test (i + 1) n ≡ None → m < n → test (i + 1 + m) ≡ true) → (m : ℕ) → m < suc n → (b : Bool) → test i ≡ b → (if b then first_from test (i + 1) n else Some i) ≡ None → test (i + m) ≡ true
    by more zero q true e g = let z : i + 0 ≡ i = omega arith in ap test z ∙ e
    by more (suc m) q true e g = let z : i + suc m ≡ i + 1 + m = omega arith in ap test z ∙ more m g (omega arith)
    by more m q false e g = absurd cc

pub first_fails : FirstFails
first_fails test n m l h e =
    let z : (k : ℕ) → 0 + k ≡ k = λ k. omega arith in
    fails_from test 0 n m l (λ k q. ap test (z k) ∙ h k q) (ap test (z m) ∙ e) ∙ ap Some (z m)

pub none_fails : NoneFails
none_fails test n h = none_from test 0 n (λ k q. let z : 0 + k ≡ k = omega arith in ap test z ∙ h k q)

pub each_passes : EachPasses
each_passes test n k h l = let z : k ≡ 0 + k = omega arith in ap test z ∙ passes_from test 0 n k h l
