-- Wider kinds of operands give a wider kind.
use Rattle.std.proofs.Common.{◌≡◌, ℕ, ◌≤◌, ◌<◌, ◌+◌, ◌-◌, ◌%◌, ◌*◌, ◌^◌, ℤ, pos, arith, Bool, true, false, refl, sym, ◌∙◌, ap, subst, Option, Some, None, List}
use Rattle.std.specs.Int.{◌∣◌}
use Rattle.std.specs.Prelude.{◌==◌, ◌&&◌, if◌then◌else◌, nat_lt, int_lt, min, unsigned_abs}
use Rattle.std.proofs.lemmas.Bool.Decides.{nat_tests}
use Rattle.std.proofs.lemmas.Nat.{pow_pos}
use Rattle.std.proofs.lemmas.Nat.Gcd.{dvd-zero, le_of_dvd}
use Rattle.std.proofs.Math.Nat.{dvd_trans, dvd_of_mod-eq-zero, mod-eq-zero_of_dvd, dvd-add, dvd-sub, mod-one, eq-zero_of_zero-dvd, mul-dvd-mul_right, mul-le-mul_right, mul-sub, mul_comm}
use Rattle.rv_decode.specs.declared.insn.Op.{Op}
use Rattle.rv_decode.specs.declared.insn.Op.TheVariants as ops
use Rattle.rv_step.specs.Values.{bits_of, extended}
use Rattle.prov_types.specs.declared.kinds.Span.{Span}
use Rattle.prov_types.specs.declared.kinds.Place.{Place}
use Rattle.prov_types.specs.declared.kinds.Kind.{Kind}
use Rattle.prov_types.specs.declared.kinds.Kind.TheVariants.{Any, Num, Ptr, Opt}
use Rattle.prov_types.specs.Spans.{IsProper, step_of, spanning, one, whole, sum, difference, raised, lowered, below, gcd, made}
use Rattle.prov_types.specs.Kinds.{EndsIn64Bits, IsProperKind, length_of}
use Rattle.prov_types.specs.Fits.{fits, inside}
use Rattle.prov_types.specs.Transfer.{number, pointer, added, subtracted, moved, shifted_left, shifted_right, masked, anded, rest_of, flag, ordered_unsigned, ordered, moved_span, is_below_31_bits, is_span, moved_word, any_of, transfer_as, transfer}
use Rattle.prov_types.specs.Laws.{TransferIsMonotone}
use Rattle.prov_types.proofs.Euclid.{gcd_is}
use Rattle.prov_types.proofs.SpanLemmas.{is_made, divided}
use Rattle.prov_types.proofs.BoundLemmas.{within, inside_is, inside_self, fits_reflexive}
use Rattle.prov_types.proofs.ProperLemmas.{one_proper, word_proper, image_proper, upper_proper}

zero_divides : (n : ℕ) → n ≡ 0 → 0 ∣ n
zero_divides n e = subst (λ m. 0 ∣ m) (sym e) (dvd-zero 0)

-- a step divides the width of its span, and is 0 of one value alone
step_width : (s : Span) → IsProper s → step_of s ∣ s.hi - s.lo
step_width s p = by (s.lo == s.hi) refl
  where
    by : (c : Bool) → (s.lo == s.hi) ≡ c → (if c then 0 else s.by) ∣ s.hi - s.lo
    by true e = let k : s.lo ≡ s.hi = grind (arith, nat_tests) in zero_divides (s.hi - s.lo) (omega (arith, k))
    by false e = dvd_of_mod-eq-zero s.by p.whole

step_none : (s : Span) → IsProper s → step_of s ≡ 0 → s.lo ≡ s.hi
step_none s p = by (s.lo == s.hi) refl
  where
    by : (c : Bool) → (s.lo == s.hi) ≡ c → (if c then 0 else s.by) ≡ 0 → s.lo ≡ s.hi
    by true e h = grind (arith, nat_tests)
    by false e h = let k = p.steps in absurd (omega (arith, k, h))

step_short : (s : Span) → IsProper s → step_of s ≤ s.hi - s.lo
step_short s p = by (s.lo == s.hi) refl
  where
    by : (c : Bool) → (s.lo == s.hi) ≡ c → (if c then 0 else s.by) ≤ s.hi - s.lo
    by true e = omega arith
    by false e =
        let o = p.order in
        let large : 0 < s.hi - s.lo = grind (arith, nat_tests, o) in
        le_of_dvd large (dvd_of_mod-eq-zero s.by p.whole)

-- what `inside` says by steps of which one value has 0
record Steps (s t : Span) : Type 0 where
  low : t.lo ≤ s.lo
  high : s.hi ≤ t.hi
  step : step_of t ∣ step_of s
  first : step_of t ∣ s.lo - t.lo
  last : step_of t ∣ t.hi - s.hi

steps_inside : (s t : Span) → IsProper s → IsProper t → inside s t ≡ true → Steps s t
steps_inside s t p q h =
    let w = within s t h in
    let low = w.low in
    let high = w.high in
    let order = p.order in
    let d = by (t.lo == t.hi) refl in
    let first = d.1 in
    let wide = dvd-add (step_of t) (dvd_trans (step_of t) d.0 (step_width s p)) first in
    let gap : (t.hi - t.lo) - ((s.hi - s.lo) + (s.lo - t.lo)) ≡ t.hi - s.hi = omega (arith, low, high, order) in
    record { low = low; high = high; step = d.0; first = first; last = subst (λ n. step_of t ∣ n) gap (dvd-sub (step_of t) (step_width t q) wide) }
  where
    by : (c : Bool) → (t.lo == t.hi) ≡ c → ((if c then 0 else t.by) ∣ step_of s) × ((if c then 0 else t.by) ∣ s.lo - t.lo)
    by true e =
        let w = within s t h in
        let low = w.low in
        let high = w.high in
        let order = p.order in
        let k : t.lo ≡ t.hi = grind (arith, nat_tests) in
        let is : s.lo ≡ s.hi = omega (arith, low, high, order, k) in
        let test : (s.lo == s.hi) ≡ true = grind (arith, nat_tests, is) in
        (zero_divides (step_of s) (rw test refl), zero_divides (s.lo - t.lo) (omega (arith, low, high, order, k)))
    by false e = let w = within s t h in (dvd_of_mod-eq-zero t.by w.step, dvd_of_mod-eq-zero t.by w.first)

gcd_divides : (a b c d : ℕ) → c ∣ a → d ∣ b → gcd c d ∣ gcd a b
gcd_divides a b c d h k = let g = gcd c d in (gcd_is a b).2 g (dvd_trans g (gcd_is c d).0 h) (dvd_trans g (gcd_is c d).1 k)

gcd_none : (a b : ℕ) → gcd a b ≡ 0 → (a ≡ 0) × (b ≡ 0)
gcd_none a b e = (eq-zero_of_zero-dvd (subst (λ g. g ∣ a) e (gcd_is a b).0), eq-zero_of_zero-dvd (subst (λ g. g ∣ b) e (gcd_is a b).1))

gcd_short : (a b : ℕ) → gcd a b ≤ a + b
gcd_short a b = by (a + b == 0) refl
  where
    by : (c : Bool) → (a + b == 0) ≡ c → gcd a b ≤ a + b
    by true e =
        let sum : a + b ≡ 0 = grind (arith, nat_tests) in
        let none : gcd a b ≡ 0 = eq-zero_of_zero-dvd ((gcd_is a b).2 0 (zero_divides a (omega (arith, sum))) (zero_divides b (omega (arith, sum)))) in
        omega (arith, none)
    by false e =
        let large : 0 < a + b = grind (arith, nat_tests) in
        le_of_dvd large (dvd-add (gcd a b) (gcd_is a b).0 (gcd_is a b).1)

-- ends and a step that are inside others
record Wider (lo hi step low high by : ℕ) : Type 0 where
  down : low ≤ lo
  up : hi ≤ high
  order : lo ≤ hi
  steps : by ∣ step
  gap : by ∣ lo - low
  none : step ≡ 0 → lo ≡ hi
  short : step ≤ hi

no_rest : (by n : ℕ) → by ∣ n → n % (if by == 0 then 1 else by) ≡ 0
no_rest by n d = test (by == 0)
  where
    test : (c : Bool) → n % (if c then 1 else by) ≡ 0
    test true = mod-one n
    test false = mod-eq-zero_of_dvd by d

spanning_inside : (lo hi step low high by : ℕ) → Wider lo hi step low high by → inside (spanning lo hi step) (spanning low high by) ≡ true
spanning_inside lo hi step low high by w = inside_is (spanning lo hi step) (spanning low high by) (record { low = w.down; high = w.up; step = no_rest by _ (test (lo == hi) (step == 0) refl refl); first = no_rest by (lo - low) w.gap })
  where
    test : (c d : Bool) → (lo == hi) ≡ c → (step == 0) ≡ d → by ∣ (if c then 0 else (if d then 1 else step))
    test true d e f = dvd-zero by
    test false false e f = w.steps
    test false true e f = let z : step ≡ 0 = grind (arith, nat_tests) in let k = w.none z in absurd (grind (arith, nat_tests, k))

whole_inside : (s : Span) → s.hi < 2 ^ 64 → inside s whole ≡ true
whole_inside s h = inside_is s whole (record { low = omega arith; high = omega (arith, h); step = mod-one _; first = mod-one _ })

ones_inside : (lo hi low high : ℕ) → low ≤ lo → hi ≤ high → inside (spanning lo hi 1) (spanning low high 1) ≡ true
ones_inside lo hi low high h k = inside_is (spanning lo hi 1) (spanning low high 1) (record { low = h; high = k; step = mod-one _; first = mod-one _ })

-- a span of 64 bits inside another, which may be none; only then it may be none
abbrev Narrower : Option Span → Option Span → Type 0
Narrower (Some s) (Some t) = (inside s t ≡ true) × (s.hi < 2 ^ 64)
Narrower (Some s) None = s.hi < 2 ^ 64
Narrower None None = Unit {0}
Narrower None (Some t) = ⊥

made_any : (lo hi step : ℕ) → Narrower (made lo hi step) None
made_any lo hi step = by (made lo hi step) refl
  where
    by : (o : Option Span) → made lo hi step ≡ o → Narrower o None
    by None e = tt
    by (Some u) e = let m = is_made lo hi step u e in let f = m.fits in subst (λ x. x.hi < 2 ^ 64) (sym m.is) f

made_narrower : (lo hi step low high by : ℕ) → Wider lo hi step low high by → Narrower (made lo hi step) (made low high by)
made_narrower lo hi step low high by w = test (made low high by) refl
  where
    test : (p : Option Span) → made low high by ≡ p → Narrower (made lo hi step) p
    test None e = made_any lo hi step
    test (Some u) e =
        let m = is_made low high by u e in
        let f = m.fits in
        let a = w.up in
        let b = w.order in
        let c = w.short in
        let first : nat_lt lo (2 ^ 64) ≡ true = grind (arith, nat_tests, a, b, f) in
        let second : nat_lt hi (2 ^ 64) ≡ true = grind (arith, nat_tests, a, f) in
        let third : nat_lt step (2 ^ 64) ≡ true = grind (arith, nat_tests, a, c, f) in
        rw (first, second, third) (subst (λ x. inside (spanning lo hi step) x ≡ true) (sym m.is) (spanning_inside lo hi step low high by w), omega (arith, a, f))

module _ (s t u v : Span) (ps : IsProper s) (pt : IsProper t) (pu : IsProper u) (pv : IsProper v) (h : inside s u ≡ true) (k : inside t v ≡ true) where
  sum_wider : Wider (s.lo + t.lo) (s.hi + t.hi) (gcd (step_of s) (step_of t)) (u.lo + v.lo) (u.hi + v.hi) (gcd (step_of u) (step_of v))
  sum_wider =
      let a = steps_inside s u ps pu h in
      let b = steps_inside t v pt pv k in
      let x = a.low in let y = a.high in let z = b.low in let w = b.high in
      let o = ps.order in let q = pt.order in
      let g = gcd (step_of u) (step_of v) in
      let gap : (s.lo - u.lo) + (t.lo - v.lo) ≡ (s.lo + t.lo) - (u.lo + v.lo) = omega (arith, x, z) in
      let i = gcd_short (step_of s) (step_of t) in let j = step_short s ps in let l = step_short t pt in
      record {
        down = omega (arith, x, z);
        up = omega (arith, y, w);
        order = omega (arith, o, q);
        steps = gcd_divides _ _ _ _ a.step b.step;
        gap = subst (λ n. g ∣ n) gap (dvd-add g (dvd_trans g (gcd_is (step_of u) (step_of v)).0 a.first) (dvd_trans g (gcd_is (step_of u) (step_of v)).1 b.first));
        none = λ e. let c = gcd_none _ _ e in let d = step_none s ps c.0 in let f = step_none t pt c.1 in omega (arith, d, f);
        short = omega (arith, i, j, l, o, q);
      }

  sum_narrower : Narrower (sum s t) (sum u v)
  unfolding sum
  sum_narrower = made_narrower _ _ _ _ _ _ sum_wider

  difference_wider : v.hi ≤ u.lo → Wider (s.lo - t.hi) (s.hi - t.lo) (gcd (step_of s) (step_of t)) (u.lo - v.hi) (u.hi - v.lo) (gcd (step_of u) (step_of v))
  difference_wider far =
      let a = steps_inside s u ps pu h in
      let b = steps_inside t v pt pv k in
      let x = a.low in let y = a.high in let z = b.low in let w = b.high in
      let o = ps.order in let q = pt.order in
      let g = gcd (step_of u) (step_of v) in
      let gap : (s.lo - u.lo) + (v.hi - t.hi) ≡ (s.lo - t.hi) - (u.lo - v.hi) = omega (arith, x, w, far) in
      let i = gcd_short (step_of s) (step_of t) in let j = step_short s ps in let l = step_short t pt in
      record {
        down = omega (arith, x, w);
        up = omega (arith, y, z);
        order = omega (arith, o, q);
        steps = gcd_divides _ _ _ _ a.step b.step;
        gap = subst (λ n. g ∣ n) gap (dvd-add g (dvd_trans g (gcd_is (step_of u) (step_of v)).0 a.first) (dvd_trans g (gcd_is (step_of u) (step_of v)).1 b.last));
        none = λ e. let c = gcd_none _ _ e in let d = step_none s ps c.0 in let f = step_none t pt c.1 in omega (arith, d, f);
        short = omega (arith, i, j, l, o, q, x, w, far);
      }

  difference_narrower : Narrower (difference s t) (difference u v)
  unfolding difference
  difference_narrower = by (nat_lt s.lo t.hi) (nat_lt u.lo v.hi) refl refl
    where
      by : (c d : Bool) → nat_lt s.lo t.hi ≡ c → nat_lt u.lo v.hi ≡ d
          → Narrower (if c then None else made (s.lo - t.hi) (s.hi - t.lo) (gcd (step_of s) (step_of t))) (if d then None else made (u.lo - v.hi) (u.hi - v.lo) (gcd (step_of u) (step_of v)))
      by true true e f = tt
      by false true e f = made_any (s.lo - t.hi) (s.hi - t.lo) (gcd (step_of s) (step_of t))
      by true false e f = let a = within s u h in let b = within t v k in let x = a.low in let y = b.high in absurd (grind (arith, nat_tests, x, y))
      by false false e f = let far : v.hi ≤ u.lo = grind (arith, nat_tests) in made_narrower (s.lo - t.hi) (s.hi - t.lo) (gcd (step_of s) (step_of t)) (u.lo - v.hi) (u.hi - v.lo) (gcd (step_of u) (step_of v)) (difference_wider far)

-- each by a power of two
raised_narrower : (s u : Span) (k : ℕ) → IsProper s → IsProper u → inside s u ≡ true → Narrower (raised s k) (raised u k)
unfolding raised
raised_narrower s u k ps pu h =
    let a = steps_inside s u ps pu h in
    let p = 2 ^ k in
    let o = ps.order in
    let gap : (s.lo - u.lo) * p ≡ s.lo * p - u.lo * p = mul_comm (s.lo - u.lo) p ∙ mul-sub p s.lo u.lo ∙ (λ i. mul_comm p s.lo i - mul_comm p u.lo i) in
    let short : step_of s ≤ s.hi = let j = step_short s ps in omega (arith, j) in
    made_narrower _ _ _ _ _ _ (record {
      down = mul-le-mul_right p a.low;
      up = mul-le-mul_right p a.high;
      order = mul-le-mul_right p o;
      steps = mul-dvd-mul_right (step_of u) a.step p;
      gap = subst (λ n. step_of u * p ∣ n) gap (mul-dvd-mul_right (step_of u) a.first p);
      none = λ e. ap (λ n. n * p) (step_none s ps (product_none (step_of s) k e));
      short = mul-le-mul_right p short;
    })
  where
    product_none : (n k : ℕ) → n * 2 ^ k ≡ 0 → n ≡ 0
    product_none n k e = by (n == 0) refl
      where
        by : (c : Bool) → (n == 0) ≡ c → n ≡ 0
        by true f = grind (arith, nat_tests)
        by false f =
            let large : 1 ≤ n = grind (arith, nat_tests) in
            let most = mul-le-mul_right (2 ^ k) large in
            let power = pow_pos k in
            absurd (omega (arith, most, power, e))

-- ---- the rules

number_wider : (o p : Option Span) → Narrower o p → fits (number o) (number p) ≡ true
unfolding fits
number_wider (Some s) (Some t) h = h.0
number_wider (Some s) None h = whole_inside s h
number_wider None None h = whole_inside whole (omega arith)
number_wider None (Some t) h = absurd h

pointer_wider : (lens : List ℕ) (r : ℕ) (o p : Option Span) → Narrower o p → fits (pointer lens r o) (pointer lens r p) ≡ true
unfolding fits
pointer_wider lens r o None h = refl
pointer_wider lens r None (Some t) h = absurd h
pointer_wider lens r (Some s) (Some t) h = by (nat_lt (length_of lens r) s.hi) (nat_lt (length_of lens r) t.hi) refl refl
  where
    by : (c d : Bool) → nat_lt (length_of lens r) s.hi ≡ c → nat_lt (length_of lens r) t.hi ≡ d → fits (if c then Any else Ptr r s) (if d then Any else Ptr r t) ≡ true
    by c true e f = refl
    by false false e f = let same : (r == r) ≡ true = grind (arith, nat_tests) in rw (same, h.0) refl
    by true false e f = let w = within s t h.0 in let a = w.high in absurd (grind (arith, nat_tests, a))

region_of : (r q : ℕ) (x : Bool) → (r == q && x) ≡ true → (r ≡ q) × (x ≡ true)
region_of r q x h = by (r == q) refl h
  where
    by : (c : Bool) → (r == q) ≡ c → (c && x) ≡ true → (r ≡ q) × (x ≡ true)
    by true e k = (grind (arith, nat_tests), k)
    by false e k = absurd cc

-- a pointer of the same region
pointer_along : (lens : List ℕ) (r q : ℕ) (o p : Option Span) → r ≡ q → Narrower o p → fits (pointer lens r o) (pointer lens q p) ≡ true
pointer_along lens r q o p e h = subst (λ n. fits (pointer lens r o) (pointer lens n p) ≡ true) e (pointer_wider lens r o p h)

added_wider : (lens : List ℕ) (a b c d : Kind) → IsProperKind a → IsProperKind b → IsProperKind c → IsProperKind d → fits a c ≡ true → fits b d ≡ true → fits (added lens a b) (added lens c d) ≡ true
unfolding added fits
added_wider lens a b Any d pa pb pc pd h k = refl
added_wider lens a b (Opt q u) d pa pb pc pd h k = refl
added_wider lens (Num s) (Num t) (Num u) (Num v) pa pb pc pd h k = number_wider _ _ (sum_narrower s t u v pa pb pc pd h k)
added_wider lens (Num s) (Ptr r t) (Num u) (Ptr q v) pa pb pc pd h k = let e = region_of r q (inside t v) k in pointer_along lens r q _ _ e.0 (sum_narrower s t u v pa pb pc pd h e.1)
added_wider lens a b (Num u) Any pa pb pc pd h k = refl
added_wider lens a b (Num u) (Opt q v) pa pb pc pd h k = refl
added_wider lens (Ptr r s) (Num t) (Ptr q u) (Num v) pa pb pc pd h k = let e = region_of r q (inside s u) h in pointer_along lens r q _ _ e.0 (sum_narrower s t u v pa pb pc pd e.1 k)
added_wider lens a b (Ptr q u) Any pa pb pc pd h k = refl
added_wider lens a b (Ptr q u) (Ptr o v) pa pb pc pd h k = refl
added_wider lens a b (Ptr q u) (Opt o v) pa pb pc pd h k = refl
added_wider lens _ _ _ _ pa pb pc pd h k = absurd cc

-- what two pointers of one region give
same_pick : (r o q n : ℕ) (k : Kind) → r ≡ q → o ≡ n → fits k k ≡ true → fits (if r == o then k else Any) (if q == n then k else Any) ≡ true
unfolding fits
same_pick r o q n k e f self =
    subst (λ m. fits (if r == o then k else Any) (if m == n then k else Any) ≡ true) e
    (subst (λ m. fits (if r == o then k else Any) (if r == m then k else Any) ≡ true) f (by (r == o)))
  where
    by : (c : Bool) → fits (if c then k else Any) (if c then k else Any) ≡ true
    by true = self
    by false = refl

whole_fits : fits (Num whole) (Num whole) ≡ true
unfolding fits
whole_fits = whole_inside whole (omega arith)

flag_fits : fits flag flag ≡ true
unfolding fits
flag_fits = ones_inside 0 1 0 1 (omega arith) (omega arith)

subtracted_wider : (lens : List ℕ) (a b c d : Kind) → IsProperKind a → IsProperKind b → IsProperKind c → IsProperKind d → fits a c ≡ true → fits b d ≡ true → fits (subtracted lens a b) (subtracted lens c d) ≡ true
unfolding subtracted fits
subtracted_wider lens a b Any d pa pb pc pd h k = refl
subtracted_wider lens a b (Opt q u) d pa pb pc pd h k = refl
subtracted_wider lens (Num s) (Num t) (Num u) (Num v) pa pb pc pd h k = number_wider _ _ (difference_narrower s t u v pa pb pc pd h k)
subtracted_wider lens a b (Num u) Any pa pb pc pd h k = refl
subtracted_wider lens a b (Num u) (Ptr q v) pa pb pc pd h k = refl
subtracted_wider lens a b (Num u) (Opt q v) pa pb pc pd h k = refl
subtracted_wider lens (Ptr r s) (Num t) (Ptr q u) (Num v) pa pb pc pd h k = let e = region_of r q (inside s u) h in pointer_along lens r q _ _ e.0 (difference_narrower s t u v pa pb pc pd e.1 k)
subtracted_wider lens (Ptr r s) (Ptr o t) (Ptr q u) (Ptr n v) pa pb pc pd h k = same_pick r o q n (Num whole) (region_of r q (inside s u) h).0 (region_of o n (inside t v) k).0 whole_fits
subtracted_wider lens a b (Ptr q u) Any pa pb pc pd h k = refl
subtracted_wider lens a b (Ptr q u) (Opt o v) pa pb pc pd h k = refl
subtracted_wider lens _ _ _ _ pa pb pc pd h k = absurd cc

moved_wider : (lens : List ℕ) (a c : Kind) (imm : ℤ) → IsProperKind a → IsProperKind c → fits a c ≡ true → fits (moved lens a imm) (moved lens c imm) ≡ true
unfolding moved
moved_wider lens a c imm pa pc h = by (int_lt imm (pos 0))
  where
    n : Kind
    n = Num (one (unsigned_abs imm))

    by : (x : Bool) → fits (if x then subtracted lens a n else added lens a n) (if x then subtracted lens c n else added lens c n) ≡ true
    by true = subtracted_wider lens a n c n pa (one_proper _) pc (one_proper _) h (fits_reflexive n (one_proper _))
    by false = added_wider lens a n c n pa (one_proper _) pc (one_proper _) h (fits_reflexive n (one_proper _))

shifted_left_wider : (a c : Kind) (k : ℕ) → IsProperKind a → IsProperKind c → fits a c ≡ true → fits (shifted_left a k) (shifted_left c k) ≡ true
unfolding shifted_left fits
shifted_left_wider a Any k pa pc h = refl
shifted_left_wider a (Ptr q u) k pa pc h = refl
shifted_left_wider a (Opt q u) k pa pc h = refl
shifted_left_wider (Num s) (Num u) k pa pc h = number_wider _ _ (raised_narrower s u k pa pc h)
shifted_left_wider _ _ k pa pc h = absurd cc

shifted_right_wider : (a c : Kind) (k : ℕ) → fits a c ≡ true → fits (shifted_right a k) (shifted_right c k) ≡ true
unfolding shifted_right lowered fits
shifted_right_wider a Any k h = refl
shifted_right_wider a (Ptr q u) k h = refl
shifted_right_wider a (Opt q u) k h = refl
shifted_right_wider (Num s) (Num u) k h = let w = within s u h in ones_inside _ _ _ _ (divided u.lo s.lo k w.low) (divided s.hi u.hi k w.high)
shifted_right_wider _ _ k h = absurd cc

below_inside : (s u : Span) (m n : ℕ) → min s.hi m ≤ min u.hi n → inside (below s m) (below u n) ≡ true
unfolding below
below_inside s u m n h = ones_inside 0 (min s.hi m) 0 (min u.hi n) (omega arith) h

below_whole : (s : Span) (m : ℕ) → min s.hi m < 2 ^ 64 → inside (below s m) whole ≡ true
unfolding below
below_whole s m h = whole_inside (spanning 0 (min s.hi m) 1) h

masked_wider : (a c : Kind) (m : ℕ) → fits a c ≡ true → fits (masked a m) (masked c m) ≡ true
unfolding masked fits
masked_wider a Any m h = refl
masked_wider a (Ptr q u) m h = refl
masked_wider a (Opt q u) m h = refl
masked_wider (Num s) (Num u) m h = by (nat_lt m (2 ^ 63))
  where
    by : (c : Bool) → fits (if c then Num (below s m) else Num whole) (if c then Num (below u m) else Num whole) ≡ true
    by true = let w = within s u h in let high = w.high in below_inside s u m m (omega (arith, high))
    by false = whole_fits
masked_wider _ _ m h = absurd cc

-- what is inside one value is it
record IsOne (s u : Span) (x : Bool) : Type 0 where
  low : s.lo ≡ u.lo
  high : s.hi ≡ u.lo
  test : (s.lo == s.hi) ≡ true
  more : x ≡ true

is_one : (s u : Span) (x : Bool) → IsProper s → inside s u ≡ true → (u.lo == u.hi && x) ≡ true → IsOne s u x
is_one s u x p h = by (u.lo == u.hi) refl
  where
    by : (c : Bool) → (u.lo == u.hi) ≡ c → (c && x) ≡ true → IsOne s u x
    by true e k =
        let w = within s u h in
        let a = w.low in
        let b = w.high in
        let o = p.order in
        let one : u.lo ≡ u.hi = grind (arith, nat_tests) in
        let low : s.lo ≡ u.lo = omega (arith, a, b, o, one) in
        let high : s.hi ≡ u.lo = omega (arith, a, b, o, one) in
        record { low = low; high = high; test = grind (arith, nat_tests, low, high); more = k }
    by false e k = absurd cc

one_bound : (s : Span) (n : ℕ) → (s.lo == s.hi && nat_lt s.lo n) ≡ true → s.lo < n
one_bound s n = by (s.lo == s.hi) (nat_lt s.lo n) refl
  where
    by : (c d : Bool) → nat_lt s.lo n ≡ d → (c && d) ≡ true → s.lo < n
    by true true e k = grind (arith, nat_tests)
    by true false e k = absurd cc
    by false d e k = absurd cc

clash : (c : Bool) → c ≡ true → c ≡ false → ⊥
clash true e f = absurd cc
clash false e f = absurd cc

module _ (s t u v : Span) (ps : IsProper s) (pt : IsProper t) (h : inside s u ≡ true) (k : inside t v ≡ true) where
  abbrev is_low : Span → Bool
  is_low x = x.lo == x.hi && nat_lt x.lo (2 ^ 63)

  low_one : (x y : Span) → IsProper x → inside x y ≡ true → is_low y ≡ true → is_low x ≡ false → ⊥
  low_one x y p i e f =
      let o = is_one x y (nat_lt y.lo (2 ^ 63)) p i e in
      let same = o.low in
      let more : nat_lt x.lo (2 ^ 63) ≡ true = rw same o.more in
      let both : is_low x ≡ true = rw (o.test, more) refl in
      clash (is_low x) both f

  anded_spans : (c d e f : Bool) → is_low t ≡ c → is_low s ≡ d → is_low v ≡ e → is_low u ≡ f
      → fits (if c then Num (below s t.lo) else (if d then Num (below t s.lo) else Num whole)) (if e then Num (below u v.lo) else (if f then Num (below v u.lo) else Num whole)) ≡ true
  unfolding fits
  anded_spans true d true f i j l m =
      let o = is_one t v (nat_lt v.lo (2 ^ 63)) pt k l in let w = within s u h in
      let same = o.low in let high = w.high in
      below_inside s u t.lo v.lo (omega (arith, same, high))
  anded_spans false d true f i j l m = absurd (low_one t v pt k l i)
  anded_spans true d false true i j l m =
      let o = is_one s u (nat_lt u.lo (2 ^ 63)) ps h m in let w = within t v k in
      let same = o.high in let high = w.high in let order = pt.order in
      below_inside s v t.lo u.lo (omega (arith, same, high, order))
  anded_spans false true false true i j l m =
      let o = is_one s u (nat_lt u.lo (2 ^ 63)) ps h m in let w = within t v k in
      let same = o.low in let high = w.high in
      below_inside t v s.lo u.lo (omega (arith, same, high))
  anded_spans false false false true i j l m = absurd (low_one s u ps h m j)
  anded_spans true d false false i j l m = let b = one_bound t (2 ^ 63) i in below_whole s t.lo (omega (arith, b))
  anded_spans false true false false i j l m = let b = one_bound s (2 ^ 63) j in below_whole t s.lo (omega (arith, b))
  anded_spans false false false false i j l m = whole_fits

  rest_spans : s.hi < 2 ^ 64 → (c e : Bool) → (t.lo == t.hi && nat_lt 0 t.lo) ≡ c → (v.lo == v.hi && nat_lt 0 v.lo) ≡ e
      → fits (if c then Num (below s (t.lo - 1)) else Num whole) (if e then Num (below u (v.lo - 1)) else Num whole) ≡ true
  unfolding fits
  rest_spans n true true i l =
      let o = is_one t v (nat_lt 0 v.lo) pt k l in let w = within s u h in
      let same = o.low in let high = w.high in
      below_inside s u (t.lo - 1) (v.lo - 1) (omega (arith, same, high))
  rest_spans n false true i l =
      let o = is_one t v (nat_lt 0 v.lo) pt k l in
      let same = o.low in
      let more : nat_lt 0 t.lo ≡ true = rw same o.more in
      let both : (t.lo == t.hi && nat_lt 0 t.lo) ≡ true = rw (o.test, more) refl in
      absurd (clash (t.lo == t.hi && nat_lt 0 t.lo) both i)
  rest_spans n true false i l = below_whole s (t.lo - 1) (omega (arith, n))
  rest_spans n false false i l = whole_fits

anded_wider : (a b c d : Kind) → IsProperKind a → IsProperKind b → fits a c ≡ true → fits b d ≡ true → fits (anded a b) (anded c d) ≡ true
unfolding anded fits
anded_wider (Num s) (Num t) (Num u) (Num v) pa pb h k = anded_spans s t u v pa pb h k _ _ _ _ refl refl refl refl
anded_wider a b Any d pa pb h k = refl
anded_wider a b (Ptr q u) d pa pb h k = refl
anded_wider a b (Opt q u) d pa pb h k = refl
anded_wider a b (Num u) Any pa pb h k = refl
anded_wider a b (Num u) (Ptr q v) pa pb h k = refl
anded_wider a b (Num u) (Opt q v) pa pb h k = refl
anded_wider _ _ _ _ pa pb h k = absurd cc

rest_wider : (a b c d : Kind) → IsProperKind a → IsProperKind b → EndsIn64Bits a → fits a c ≡ true → fits b d ≡ true → fits (rest_of a b) (rest_of c d) ≡ true
unfolding rest_of fits
rest_wider (Num s) (Num t) (Num u) (Num v) pa pb n h k = rest_spans s t u v pa pb h k n _ _ refl refl
rest_wider a b Any d pa pb n h k = refl
rest_wider a b (Ptr q u) d pa pb n h k = refl
rest_wider a b (Opt q u) d pa pb n h k = refl
rest_wider a b (Num u) Any pa pb n h k = refl
rest_wider a b (Num u) (Ptr q v) pa pb n h k = refl
rest_wider a b (Num u) (Opt q v) pa pb n h k = refl
rest_wider _ _ _ _ pa pb n h k = absurd cc

ordered_unsigned_wider : (a b c d : Kind) → fits a c ≡ true → fits b d ≡ true → fits (ordered_unsigned a b) (ordered_unsigned c d) ≡ true
unfolding ordered_unsigned fits
ordered_unsigned_wider (Num s) (Num t) (Num u) (Num v) h k = flag_fits
ordered_unsigned_wider (Ptr r s) (Ptr o t) (Ptr q u) (Ptr n v) h k = same_pick r o q n flag (region_of r q (inside s u) h).0 (region_of o n (inside t v) k).0 flag_fits
ordered_unsigned_wider a b Any d h k = refl
ordered_unsigned_wider a b (Opt q u) d h k = refl
ordered_unsigned_wider a b (Num u) Any h k = refl
ordered_unsigned_wider a b (Num u) (Ptr q v) h k = refl
ordered_unsigned_wider a b (Num u) (Opt q v) h k = refl
ordered_unsigned_wider a b (Ptr q u) Any h k = refl
ordered_unsigned_wider a b (Ptr q u) (Num v) h k = refl
ordered_unsigned_wider a b (Ptr q u) (Opt o v) h k = refl
ordered_unsigned_wider _ _ _ _ h k = absurd cc

ordered_wider : (a b c d : Kind) → fits a c ≡ true → fits b d ≡ true → fits (ordered a b) (ordered c d) ≡ true
unfolding ordered fits
ordered_wider (Num s) (Num t) (Num u) (Num v) h k = flag_fits
ordered_wider a b Any d h k = refl
ordered_wider a b (Ptr q u) d h k = refl
ordered_wider a b (Opt q u) d h k = refl
ordered_wider a b (Num u) Any h k = refl
ordered_wider a b (Num u) (Ptr q v) h k = refl
ordered_wider a b (Num u) (Opt q v) h k = refl
ordered_wider _ _ _ _ h k = absurd cc

any_wider : (a b c d : Kind) → fits a c ≡ true → fits b d ≡ true → fits (any_of a b) (any_of c d) ≡ true
unfolding any_of fits
any_wider (Num s) (Num t) (Num u) (Num v) h k = whole_fits
any_wider a b Any d h k = refl
any_wider a b (Ptr q u) d h k = refl
any_wider a b (Opt q u) d h k = refl
any_wider a b (Num u) Any h k = refl
any_wider a b (Num u) (Ptr q v) h k = refl
any_wider a b (Num u) (Opt q v) h k = refl
any_wider _ _ _ _ h k = absurd cc

moved_narrower : (s u : Span) (imm : ℤ) → IsProper s → IsProper u → inside s u ≡ true → Narrower (moved_span s imm) (moved_span u imm)
unfolding moved_span
moved_narrower s u imm ps pu h = by (int_lt imm (pos 0))
  where
    n : Span
    n = one (unsigned_abs imm)

    by : (c : Bool) → Narrower (if c then difference s n else sum s n) (if c then difference u n else sum u n)
    by true = difference_narrower s n u n ps (one_proper _) pu (one_proper _) h (inside_self n (one_proper _))
    by false = sum_narrower s n u n ps (one_proper _) pu (one_proper _) h (inside_self n (one_proper _))

-- of one value a word rests on that value alone
moved_same : (s u : Span) (imm : ℤ) → s.lo ≡ u.lo → s.hi ≡ u.hi → (u.lo == u.hi) ≡ true → moved_span s imm ≡ moved_span u imm
unfolding moved_span sum difference
moved_same s u imm a b e = rw (a, b, e) refl

abbrev word_kind : (lo : ℕ) (small : Option Span) (test : Bool) → ℤ → Kind
word_kind lo o test imm =
    if is_below_31_bits o then number o
    else (if test && (is_span o && nat_lt (extended (lo + bits_of imm)) (2 ^ 31)) then Num (one (extended (lo + bits_of imm))) else Num whole)

word_same : (s u : Span) (imm : ℤ) → s.lo ≡ u.lo → s.hi ≡ u.hi → (u.lo == u.hi) ≡ true → moved_word (Num s) imm ≡ moved_word (Num u) imm
unfolding moved_word
word_same s u imm a b e = λ i. word_kind (a i) (moved_same s u imm a b e i) (a i == b i) imm

any_number : (o p : Option Span) → Narrower o p → fits (number o) (Num whole) ≡ true
unfolding fits
any_number (Some x) (Some y) n = whole_inside x n.1
any_number (Some x) None n = whole_inside x n
any_number None p n = whole_fits

-- the word of one value, if it is that, is a number
any_word : (m : ℕ) (x y z c : Bool) → nat_lt m (2 ^ 31) ≡ z → (x && (y && z)) ≡ c → fits (if c then Num (one m) else Num whole) (Num whole) ≡ true
unfolding fits
any_word m x y z false f e = whole_fits
any_word m true true true true f e = let low : m < 2 ^ 31 = grind (arith, nat_tests) in whole_inside (one m) (omega (arith, low))
any_word m true true false true f e = absurd cc
any_word m true false z true f e = absurd cc
any_word m false y z true f e = absurd cc

-- a word of a span, and one of a span with several values
several_words : (lo hi : ℕ) (imm : ℤ) (o p : Option Span) → Narrower o p → (c d : Bool) → is_below_31_bits o ≡ c → is_below_31_bits p ≡ d
    → fits (if c then number o else (if lo == hi && (is_span o && nat_lt (extended (lo + bits_of imm)) (2 ^ 31)) then Num (one (extended (lo + bits_of imm))) else Num whole)) (if d then number p else Num whole) ≡ true
several_words lo hi imm o p n true true e f = number_wider o p n
several_words lo hi imm o p n true false e f = any_number o p n
several_words lo hi imm o p n false false e f = any_word (extended (lo + bits_of imm)) (lo == hi) (is_span o) _ _ refl refl
several_words lo hi imm (Some x) (Some y) n false true e f = let w = within x y n.0 in let a = w.high in absurd (grind (arith, nat_tests, a))
several_words lo hi imm (Some x) None n false true e f = absurd cc
several_words lo hi imm None (Some y) n false true e f = absurd n
several_words lo hi imm None None n false true e f = absurd cc

word_spans : (s u : Span) (imm : ℤ) → IsProper s → IsProper u → inside s u ≡ true → fits (moved_word (Num s) imm) (moved_word (Num u) imm) ≡ true
unfolding moved_word
word_spans s u imm ps pu h = by (u.lo == u.hi) refl
  where
    by : (c : Bool) → (u.lo == u.hi) ≡ c → fits (moved_word (Num s) imm) (moved_word (Num u) imm) ≡ true
    by true e =
        let w = within s u h in
        let a = w.low in
        let b = w.high in
        let o = ps.order in
        let one : u.lo ≡ u.hi = grind (arith, nat_tests) in
        let low : s.lo ≡ u.lo = omega (arith, a, b, o, one) in
        let high : s.hi ≡ u.hi = omega (arith, a, b, o, one) in
        subst (λ k. fits k (moved_word (Num u) imm) ≡ true) (sym (word_same s u imm low high e)) (fits_reflexive (moved_word (Num u) imm) (word_proper (Num u) imm pu))
    by false e =
        subst (λ c. fits (moved_word (Num s) imm) (word_kind u.lo (moved_span u imm) c imm) ≡ true) (sym e)
        (several_words s.lo s.hi imm (moved_span s imm) (moved_span u imm) (moved_narrower s u imm ps pu h) _ _ refl refl)

word_wider : (a c : Kind) (imm : ℤ) → IsProperKind a → IsProperKind c → fits a c ≡ true → fits (moved_word a imm) (moved_word c imm) ≡ true
unfolding moved_word fits
word_wider (Num s) (Num u) imm pa pc h = word_spans s u imm pa pc h
word_wider a Any imm pa pc h = refl
word_wider a (Ptr q u) imm pa pc h = refl
word_wider a (Opt q u) imm pa pc h = refl
word_wider _ _ imm pa pc h = absurd cc

-- one line a name
by_name : (op : Op) (imm : ℤ) (place : Place) (a b c d : Kind) (lens : List ℕ) → IsProperKind a → IsProperKind b → IsProperKind c → IsProperKind d → EndsIn64Bits a → fits a c ≡ true → fits b d ≡ true
    → fits (transfer_as op imm place a b lens) (transfer_as op imm place c d lens) ≡ true
unfolding fits
by_name ops.Lui imm place a b c d lens pa pb pc pd n h k = fits_reflexive _ (upper_proper lens imm place.target)
by_name ops.Auipc imm place a b c d lens pa pb pc pd n h k = fits_reflexive _ (image_proper lens _)
by_name ops.Jal imm place a b c d lens pa pb pc pd n h k = fits_reflexive _ (image_proper lens _)
by_name ops.Jalr imm place a b c d lens pa pb pc pd n h k = fits_reflexive _ (image_proper lens _)
by_name ops.Add imm place a b c d lens pa pb pc pd n h k = added_wider lens a b c d pa pb pc pd h k
by_name ops.Addi imm place a b c d lens pa pb pc pd n h k = moved_wider lens a c imm pa pc h
by_name ops.Sub imm place a b c d lens pa pb pc pd n h k = subtracted_wider lens a b c d pa pb pc pd h k
by_name ops.Slli imm place a b c d lens pa pb pc pd n h k = shifted_left_wider a c (bits_of imm % 64) pa pc h
by_name ops.Srli imm place a b c d lens pa pb pc pd n h k = shifted_right_wider a c (bits_of imm % 64) h
by_name ops.Andi imm place a b c d lens pa pb pc pd n h k = masked_wider a c (bits_of imm) h
by_name ops.And imm place a b c d lens pa pb pc pd n h k = anded_wider a b c d pa pb h k
by_name ops.Remu imm place a b c d lens pa pb pc pd n h k = rest_wider a b c d pa pb n h k
by_name ops.Addiw imm place a b c d lens pa pb pc pd n h k = word_wider a c imm pa pc h
by_name ops.Sltu imm place a b c d lens pa pb pc pd n h k = ordered_unsigned_wider a b c d h k
by_name ops.Slt imm place a b c d lens pa pb pc pd n h k = ordered_wider a b c d h k
by_name ops.Slti imm place a b c d lens pa pb pc pd n h k = ordered_wider a (Num whole) c (Num whole) h whole_fits
by_name ops.Sltiu imm place a b c d lens pa pb pc pd n h k = ordered_wider a (Num whole) c (Num whole) h whole_fits
by_name ops.Xori imm place a b c d lens pa pb pc pd n h k = any_wider a (Num whole) c (Num whole) h whole_fits
by_name ops.Ori imm place a b c d lens pa pb pc pd n h k = any_wider a (Num whole) c (Num whole) h whole_fits
by_name ops.Srai imm place a b c d lens pa pb pc pd n h k = any_wider a (Num whole) c (Num whole) h whole_fits
by_name ops.Slliw imm place a b c d lens pa pb pc pd n h k = any_wider a (Num whole) c (Num whole) h whole_fits
by_name ops.Srliw imm place a b c d lens pa pb pc pd n h k = any_wider a (Num whole) c (Num whole) h whole_fits
by_name ops.Sraiw imm place a b c d lens pa pb pc pd n h k = any_wider a (Num whole) c (Num whole) h whole_fits
by_name ops.Sll imm place a b c d lens pa pb pc pd n h k = any_wider a b c d h k
by_name ops.Xor imm place a b c d lens pa pb pc pd n h k = any_wider a b c d h k
by_name ops.Srl imm place a b c d lens pa pb pc pd n h k = any_wider a b c d h k
by_name ops.Sra imm place a b c d lens pa pb pc pd n h k = any_wider a b c d h k
by_name ops.Or imm place a b c d lens pa pb pc pd n h k = any_wider a b c d h k
by_name ops.Addw imm place a b c d lens pa pb pc pd n h k = any_wider a b c d h k
by_name ops.Subw imm place a b c d lens pa pb pc pd n h k = any_wider a b c d h k
by_name ops.Sllw imm place a b c d lens pa pb pc pd n h k = any_wider a b c d h k
by_name ops.Srlw imm place a b c d lens pa pb pc pd n h k = any_wider a b c d h k
by_name ops.Sraw imm place a b c d lens pa pb pc pd n h k = any_wider a b c d h k
by_name ops.Mul imm place a b c d lens pa pb pc pd n h k = any_wider a b c d h k
by_name ops.Mulh imm place a b c d lens pa pb pc pd n h k = any_wider a b c d h k
by_name ops.Mulhsu imm place a b c d lens pa pb pc pd n h k = any_wider a b c d h k
by_name ops.Mulhu imm place a b c d lens pa pb pc pd n h k = any_wider a b c d h k
by_name ops.Mulw imm place a b c d lens pa pb pc pd n h k = any_wider a b c d h k
by_name ops.Div imm place a b c d lens pa pb pc pd n h k = any_wider a b c d h k
by_name ops.Divu imm place a b c d lens pa pb pc pd n h k = any_wider a b c d h k
by_name ops.Rem imm place a b c d lens pa pb pc pd n h k = any_wider a b c d h k
by_name ops.Divw imm place a b c d lens pa pb pc pd n h k = any_wider a b c d h k
by_name ops.Divuw imm place a b c d lens pa pb pc pd n h k = any_wider a b c d h k
by_name ops.Remw imm place a b c d lens pa pb pc pd n h k = any_wider a b c d h k
by_name ops.Remuw imm place a b c d lens pa pb pc pd n h k = any_wider a b c d h k
by_name _ imm place a b c d lens pa pb pc pd n h k = refl

pub transfer_monotone : TransferIsMonotone
unfolding transfer
transfer_monotone insn place a b c d lens pa pb pc pd n h k = by_name insn.op insn.imm place a b c d lens pa pb pc pd n h k
