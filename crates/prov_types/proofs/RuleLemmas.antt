-- Each rule is sound.
use Rattle.std.proofs.Common.{◌≡◌, ℕ, suc, ◌≤◌, ◌<◌, ◌+◌, ◌-◌, ◌%◌, ◌/◌, ◌*◌, ◌^◌, ℤ, pos, arith, Bool, true, false, refl, sym, ◌∙◌, ap, subst, Option, Some, None}
use Rattle.std.specs.Int.{w64}
use Rattle.std.specs.Prelude.{FitsSigned, ◌==◌, ◌&&◌, if◌then◌else◌, nat_lt, int_lt, negsuc, bit_and}
use Rattle.std.proofs.Math.Nat.{mod-eq_of_lt, add-mul-mod_self_right, mod-le, mod-lt}
use Rattle.std.proofs.lemmas.Nat.{and_le_l, and_comm}
use Rattle.std.proofs.lemmas.Int.{ints}
use Rattle.std.proofs.lemmas.Bool.Decides.{nat_tests}
use Rattle.uh_base.specs.Bytes.{plus}
use Rattle.rv_step.specs.Values.{minus, bits_of, of_bool, remainder}
use Rattle.prov_types.specs.declared.kinds.Span.{Span}
use Rattle.prov_types.specs.declared.kinds.Kind.{Kind}
use Rattle.prov_types.specs.declared.kinds.Kind.TheVariants.{Any, Num, Ptr}
use Rattle.prov_types.proofs.SpanLemmas.{sum_in, difference_in, DifferenceIn, raised_in, lowered_in, below_in, one_in, test_in, ends, by_one}
use Rattle.prov_types.specs.Kinds.{AreApart, Holds, HoldsOpt, HoldsPtr, Regions, length_of, nought, pointed}
use Rattle.prov_types.specs.Spans.{InSpan, below, difference, one, raised, spanning, sum, whole}
use Rattle.prov_types.specs.Transfer.{added, anded, any_of, masked, moved, moved_span, number, ordered, ordered_unsigned, pointer, rest_of, shifted_left, shifted_right, subtracted}

pub whole_in : (v : ℕ) → v < 2 ^ 64 → InSpan whole v
whole_in v h = record { up = v; down = 2 ^ 64 - 1 - v; from_lo = omega arith; to_hi = omega arith }

-- a sum that doesn't wrap
pub plus_is : (a b : ℕ) → a + b < 2 ^ 64 → plus a b ≡ a + b
plus_is a b h = omega arith

pub plus_fits : (a b : ℕ) → plus a b < 2 ^ 64
plus_fits a b = omega arith

pub minus_fits : (a b : ℕ) → minus a b < 2 ^ 64
minus_fits a b = omega arith

-- a difference of numbers that doesn't wrap
minus_is : (a b : ℕ) → b ≤ a → a < 2 ^ 64 → minus a b ≡ a - b
minus_is a b h l = let e : a + (2 ^ 64 - b) ≡ (a - b) + 1 * 2 ^ 64 = omega arith in ap (λ n. n % 2 ^ 64) e ∙ add-mul-mod_self_right (a - b) 1 (2 ^ 64) ∙ mod-eq_of_lt (omega arith)

rest_fits : (a b : ℕ) → a < 2 ^ 64 → remainder a b < 2 ^ 64
rest_fits a b h = by (b == 0)
  where
    by : (c : Bool) → (if c then a else a % b) < 2 ^ 64
    by true = h
    by false = omega (arith, mod-le a b)

rest_in : (s : Span) (v w c : ℕ) → InSpan s v → w ≡ c → 0 < c → InSpan (below s (c - 1)) (remainder v w)
unfolding below
rest_in s v w c p e h =
    let no : (w == 0) ≡ false = grind (arith, nat_tests) in
    let top = ends s v p in
    let small : v % w < w = mod-lt v (omega (arith, e, h)) in
    rw no (by_one 0 _ _ (omega arith) (omega (arith, top.1, small, mod-le v w, e)))

module _ (regions : Regions) (apart : AreApart regions) where
  number_holds : (o : Option Span) (v : ℕ) → v < 2 ^ 64 → ((u : Span) → o ≡ Some u → InSpan u v) → Holds regions (number o) v v
  number_holds None v h f = record { same = refl; within = whole_in v h }
  number_holds (Some u) v h f = record { same = refl; within = f u refl }

  pointer_holds : (r : ℕ) (o : Option Span) (v w : ℕ) → ((u : Span) → o ≡ Some u → u.hi ≤ length_of regions.lens r → HoldsPtr regions r u v w)
      → Holds regions (pointer regions.lens r o) v w
  pointer_holds r None v w f = tt
  pointer_holds r (Some u) v w f = by (nat_lt (length_of regions.lens r) u.hi) refl
    where
      by : (t : Bool) → nat_lt (length_of regions.lens r) u.hi ≡ t → Holds regions (if t then Any else Ptr r u) v w
      by true e = tt
      by false e = f u refl (grind (arith, nat_tests))

  added_num : (s t : Span) (a b : ℕ) → InSpan s a → InSpan t b → Holds regions (number (sum s t)) (plus a b) (plus a b)
  added_num s t a b p q = number_holds (sum s t) (plus a b) (plus_fits a b)
      (λ u e. let k = sum_in s t u a b p q e in rw (plus_is a b (omega (arith, k.1, k.2))) (k.0))

  -- a pointer and a number
  moved_on : (r : ℕ) (s : Span) (a a' b : ℕ) (p : HoldsPtr regions r s a a') (t u : Span) → u.hi ≤ length_of regions.lens r
      → InSpan u (p.offset + b) × (p.offset + b ≤ u.hi) × (u.hi < 2 ^ 64) → HoldsPtr regions r u (plus a b) (plus a' b)
  moved_on r s a a' b p t u h k =
      let e = apart.old_ends r in
      let f = apart.new_ends r in
      record {
        offset = p.offset + b;
        old = omega (arith, p.old, k.1, e);
        new = omega (arith, p.new, k.1, f);
        within = k.0;
        inside = omega (arith, k.1);
      }

  moved_back : (r : ℕ) (s : Span) (a a' b : ℕ) (p : HoldsPtr regions r s a a') (u : Span) → u.hi ≤ length_of regions.lens r
      → InSpan u (b + p.offset) × (b + p.offset ≤ u.hi) × (u.hi < 2 ^ 64) → HoldsPtr regions r u (plus b a) (plus b a')
  moved_back r s a a' b p u h k =
      let e = apart.old_ends r in
      let f = apart.new_ends r in
      record {
        offset = b + p.offset;
        old = omega (arith, p.old, k.1, e);
        new = omega (arith, p.new, k.1, f);
        within = k.0;
        inside = omega (arith, k.1);
      }

  pub added_holds : (a b : Kind) (v v' w w' : ℕ) → Holds regions a v v' → Holds regions b w w' → Holds regions (added regions.lens a b) (plus v w) (plus v' w')
  unfolding added
  added_holds (Num s) (Num t) v v' w w' p q = subst (λ n. Holds regions (number (sum s t)) (plus v w) (plus n w')) p.same (subst (λ n. Holds regions (number (sum s t)) (plus v w) (plus v n)) q.same (added_num s t v w p.within q.within))
  added_holds (Ptr r s) (Num t) v v' w w' p q = subst (λ n. Holds regions (pointer regions.lens r (sum s t)) (plus v w) (plus v' n)) q.same
      (pointer_holds r (sum s t) (plus v w) (plus v' w) (λ u e h. moved_on r s v v' w p t u h (sum_in s t u p.offset w p.within q.within e)))
  added_holds (Num s) (Ptr r t) v v' w w' p q = subst (λ n. Holds regions (pointer regions.lens r (sum s t)) (plus v w) (plus n w')) p.same
      (pointer_holds r (sum s t) (plus v w) (plus v w') (λ u e h. moved_back r t w w' v q u h (sum_in s t u v q.offset p.within q.within e)))
  added_holds _ _ v v' w w' p q = tt

  subtracted_num : (s t : Span) (a b : ℕ) → a < 2 ^ 64 → InSpan s a → InSpan t b → Holds regions (number (difference s t)) (minus a b) (minus a b)
  subtracted_num s t a b h p q = number_holds (difference s t) (minus a b) (minus_fits a b)
      (λ u e. let k = difference_in s t u a b p q e in rw (minus_is a b k.order h) (k.within))

  moved_down : (r : ℕ) (s : Span) (a a' b : ℕ) (p : HoldsPtr regions r s a a') (t u : Span) → u.hi ≤ length_of regions.lens r
      → DifferenceIn s t u p.offset b → HoldsPtr regions r u (minus a b) (minus a' b)
  moved_down r s a a' b p t u h k =
      let e = apart.old_ends r in
      let f = apart.new_ends r in
      record {
        offset = p.offset - b;
        old = minus_is a b (omega (arith, p.old, k.order)) (omega (arith, p.old, p.inside, e)) ∙ omega (arith, p.old, k.order);
        new = minus_is a' b (omega (arith, p.new, k.order)) (omega (arith, p.new, p.inside, f)) ∙ omega (arith, p.new, k.order);
        within = k.within;
        inside = omega (arith, k.top);
      }

  -- two pointers to one region are as far apart in both runs
  apart_same : (r : ℕ) (s t : Span) (a a' b b' : ℕ) → HoldsPtr regions r s a a' → HoldsPtr regions r t b b' → minus a b ≡ minus a' b'
  apart_same r s t a a' b b' p q =
      let e = apart.old_ends r in
      let f = apart.new_ends r in
      ap (λ n. n % 2 ^ 64) (omega (arith, p.old, p.new, q.old, q.new, p.inside, q.inside, e, f))

  pub subtracted_holds : (a b : Kind) (v v' w w' : ℕ) → v < 2 ^ 64 → Holds regions a v v' → Holds regions b w w'
      → Holds regions (subtracted regions.lens a b) (minus v w) (minus v' w')
  unfolding subtracted
  subtracted_holds (Num s) (Num t) v v' w w' l p q = subst (λ n. Holds regions (number (difference s t)) (minus v w) (minus n w')) p.same
      (subst (λ n. Holds regions (number (difference s t)) (minus v w) (minus v n)) q.same (subtracted_num s t v w l p.within q.within))
  subtracted_holds (Ptr r s) (Num t) v v' w w' l p q = subst (λ n. Holds regions (pointer regions.lens r (difference s t)) (minus v w) (minus v' n)) q.same
      (pointer_holds r (difference s t) (minus v w) (minus v' w) (λ u e h. moved_down r s v v' w p t u h (difference_in s t u p.offset w p.within q.within e)))
  subtracted_holds (Ptr r s) (Ptr o t) v v' w w' l p q = by (r == o) refl
    where
      by : (c : Bool) → (r == o) ≡ c → Holds regions (if c then Num whole else Any) (minus v w) (minus v' w')
      by true e =
          let same : o ≡ r = grind (arith, nat_tests) in
          record { same = apart_same r s t v v' w w' p (subst (λ n. HoldsPtr regions n t w w') same q); within = whole_in _ (minus_fits v w) }
      by false e = tt
  subtracted_holds _ _ v v' w w' l p q = tt

  pub moved_holds : (a : Kind) (imm : ℤ) (v v' : ℕ) → v < 2 ^ 64 → Holds regions a v v' → Holds regions (moved regions.lens a imm) (plus v (bits_of imm)) (plus v' (bits_of imm))
  unfolding moved
  moved_holds a (pos n) v v' l p = by (int_lt (pos n) (pos 0)) refl
    where
      by : (c : Bool) → int_lt (pos n) (pos 0) ≡ c → Holds regions (if c then subtracted regions.lens a (Num (one n)) else added regions.lens a (Num (one n))) (plus v n) (plus v' n)
      by true e = absurd (grind (arith, ints, nat_tests))
      by false e = added_holds a (Num (one n)) v v' n n p (record { same = refl; within = one_in n })
  moved_holds a (negsuc n) v v' l p = subtracted_holds a (Num (one (suc n))) v v' (suc n) (suc n) l p (record { same = refl; within = one_in (suc n) })

  pub shifted_left_holds : (a : Kind) (k v v' : ℕ) → Holds regions a v v' → Holds regions (shifted_left a k) (v * 2 ^ k % 2 ^ 64) (v' * 2 ^ k % 2 ^ 64)
  unfolding shifted_left
  shifted_left_holds (Num s) k v v' p = subst (λ n. Holds regions (number (raised s k)) (v * 2 ^ k % 2 ^ 64) (n * 2 ^ k % 2 ^ 64)) p.same
      (number_holds (raised s k) (v * 2 ^ k % 2 ^ 64) (omega arith) (λ u e. let h = raised_in s u v k p.within e in let f : v * 2 ^ k < 2 ^ 64 = omega (arith, h.1, h.2) in rw (mod-eq_of_lt f) (h.0)))
  shifted_left_holds _ k v v' p = tt

  pub shifted_right_holds : (a : Kind) (k v v' : ℕ) → Holds regions a v v' → Holds regions (shifted_right a k) (v / 2 ^ k) (v' / 2 ^ k)
  unfolding shifted_right
  shifted_right_holds (Num s) k v v' p = record { same = ap (λ n. n / 2 ^ k) p.same; within = lowered_in s v k p.within }
  shifted_right_holds _ k v v' p = tt

  pub masked_holds : (a : Kind) (m v v' : ℕ) → v < 2 ^ 64 → Holds regions a v v' → Holds regions (masked a m) (bit_and v m) (bit_and v' m)
  unfolding masked
  masked_holds (Num s) m v v' l p = by (nat_lt m (2 ^ 63)) refl
    where
      by : (c : Bool) → nat_lt m (2 ^ 63) ≡ c → Holds regions (if c then Num (below s m) else Num whole) (bit_and v m) (bit_and v' m)
      by true e = record { same = ap (λ n. bit_and n m) p.same; within = below_in s v m p.within }
      by false e = record { same = ap (λ n. bit_and n m) p.same; within = whole_in _ (omega (arith, and_le_l v m)) }
  masked_holds _ m v v' l p = tt

  test_fits : (c : Bool) → of_bool c ≤ 1
  test_fits true = omega arith
  test_fits false = omega arith

  pub tests_same : (r : ℕ) (s t : Span) (a a' b b' : ℕ) → HoldsPtr regions r s a a' → HoldsPtr regions r t b b' → nat_lt a b ≡ nat_lt a' b'
  tests_same r s t a a' b b' p q = grind (arith, nat_tests, p.old, p.new, q.old, q.new)

  pub ordered_unsigned_holds : (a b : Kind) (v v' w w' : ℕ) → Holds regions a v v' → Holds regions b w w' → Holds regions (ordered_unsigned a b) (of_bool (nat_lt v w)) (of_bool (nat_lt v' w'))
  unfolding ordered_unsigned
  ordered_unsigned_holds (Num s) (Num t) v v' w w' p q = let e = p.same in let f = q.same in record { same = cc; within = test_in _ (test_fits (nat_lt v w)) }
  ordered_unsigned_holds (Ptr r s) (Ptr o t) v v' w w' p q = by (r == o) refl
    where
      by : (c : Bool) → (r == o) ≡ c → Holds regions (if c then Num (spanning 0 1 1) else Any) (of_bool (nat_lt v w)) (of_bool (nat_lt v' w'))
      by true e =
          let same : o ≡ r = grind (arith, nat_tests) in
          record { same = ap of_bool (tests_same r s t v v' w w' p (subst (λ n. HoldsPtr regions n t w w') same q)); within = test_in _ (test_fits (nat_lt v w)) }
      by false e = tt
  ordered_unsigned_holds _ _ v v' w w' p q = tt

  pub constant : (n : ℕ) → Holds regions (Num (one n)) n n
  constant n = record { same = refl; within = one_in n }

  -- two numbers that are the same in both runs
  pub any_holds : (a b : Kind) (f : ℕ → ℕ → ℕ) (v v' w w' : ℕ) → f v w < 2 ^ 64 → Holds regions a v v' → Holds regions b w w' → Holds regions (any_of a b) (f v w) (f v' w')
  unfolding any_of
  any_holds (Num s) (Num t) f v v' w w' h p q = let e = p.same in let k = q.same in record { same = cc; within = whole_in (f v w) h }
  any_holds _ _ f v v' w w' h p q = tt

  -- AND and REMU, SLT and ADDIW
  swap_and : (m n : ℕ) → bit_and m n ≡ bit_and n m
  swap_and m n = and_comm m n

  one_value : (s : Span) (v : ℕ) → InSpan s v → (s.lo == s.hi) ≡ true → v ≡ s.lo
  one_value s v p e = let k : s.lo ≡ s.hi = grind (arith, nat_tests) in let a = p.from_lo in let b = p.to_hi in omega (arith, a, b)

  and_both : (s t : Span) (v w : ℕ) → v < 2 ^ 64 → InSpan s v → InSpan t w → Holds regions (anded (Num s) (Num t)) (bit_and v w) (bit_and v w)
  unfolding anded
  and_both s t v w l p q = by (t.lo == t.hi) (nat_lt t.lo (2 ^ 63)) (s.lo == s.hi) (nat_lt s.lo (2 ^ 63)) refl refl
    where
      by : (a b c d : Bool) → (t.lo == t.hi) ≡ a → (s.lo == s.hi) ≡ c
          → Holds regions (if a && b then Num (below s t.lo) else (if c && d then Num (below t s.lo) else Num whole)) (bit_and v w) (bit_and v w)
      by true true c d e f = record { same = refl; within = subst (λ n. InSpan (below s t.lo) (bit_and v n)) (sym (one_value t w q e)) (below_in s v t.lo p) }
      by true false true true e f = record { same = refl; within = subst (λ n. InSpan (below t s.lo) (bit_and n w)) (sym (one_value s v p f)) (subst (λ n. InSpan (below t s.lo) n) (and_comm w s.lo) (below_in t w s.lo q)) }
      by false b true true e f = record { same = refl; within = subst (λ n. InSpan (below t s.lo) (bit_and n w)) (sym (one_value s v p f)) (subst (λ n. InSpan (below t s.lo) n) (and_comm w s.lo) (below_in t w s.lo q)) }
      by true false true false e f = record { same = refl; within = whole_in _ (omega (arith, and_le_l v w)) }
      by true false false d e f = record { same = refl; within = whole_in _ (omega (arith, and_le_l v w)) }
      by false b true false e f = record { same = refl; within = whole_in _ (omega (arith, and_le_l v w)) }
      by false b false d e f = record { same = refl; within = whole_in _ (omega (arith, and_le_l v w)) }

  pub anded_holds : (a b : Kind) (v v' w w' : ℕ) → v < 2 ^ 64 → Holds regions a v v' → Holds regions b w w' → Holds regions (anded a b) (bit_and v w) (bit_and v' w')
  unfolding anded
  anded_holds (Num s) (Num t) v v' w w' l p q = subst (λ n. Holds regions (anded (Num s) (Num t)) (bit_and v w) (bit_and n w')) p.same (subst (λ n. Holds regions (anded (Num s) (Num t)) (bit_and v w) (bit_and v n)) q.same (and_both s t v w l p.within q.within))
  anded_holds _ _ v v' w w' l p q = tt

  rest_both : (s t : Span) (v w : ℕ) → v < 2 ^ 64 → InSpan s v → InSpan t w → Holds regions (rest_of (Num s) (Num t)) (remainder v w) (remainder v w)
  unfolding rest_of
  rest_both s t v w l p q = by (t.lo == t.hi) (nat_lt 0 t.lo) refl refl
    where
      by : (a b : Bool) → (t.lo == t.hi) ≡ a → nat_lt 0 t.lo ≡ b → Holds regions (if a && b then Num (below s (t.lo - 1)) else Num whole) (remainder v w) (remainder v w)
      by true true e f = record { same = refl; within = rest_in s v w t.lo p (one_value t w q e) (grind (arith, nat_tests)) }
      by true false e f = record { same = refl; within = whole_in _ (rest_fits v w l) }
      by false b e f = record { same = refl; within = whole_in _ (rest_fits v w l) }

  pub rest_holds : (a b : Kind) (v v' w w' : ℕ) → v < 2 ^ 64 → Holds regions a v v' → Holds regions b w w' → Holds regions (rest_of a b) (remainder v w) (remainder v' w')
  unfolding rest_of
  rest_holds (Num s) (Num t) v v' w w' l p q = let e = p.same in let f = q.same in subst (λ n. Holds regions (rest_of (Num s) (Num t)) (remainder v w) (remainder n w')) e (subst (λ n. Holds regions (rest_of (Num s) (Num t)) (remainder v w) (remainder v n)) f (rest_both s t v w l p.within q.within))
  rest_holds _ _ v v' w w' l p q = tt

  pub ordered_holds : (a b : Kind) (f : ℕ → ℕ → Bool) (v v' w w' : ℕ) → Holds regions a v v' → Holds regions b w w' → Holds regions (ordered a b) (of_bool (f v w)) (of_bool (f v' w'))
  unfolding ordered
  ordered_holds (Num s) (Num t) f v v' w w' p q = let e = p.same in let k = q.same in record { same = cc; within = test_in _ (test_fits (f v w)) }
  ordered_holds _ _ f v v' w w' p q = tt

  pub any_number : (n : ℕ) → n < 2 ^ 64 → Holds regions (Num whole) n n
  any_number n h = record { same = refl; within = whole_in n h }

  -- ADDIW
  pub record WordSum (u : Span) (v : ℕ) (imm : ℤ) : Type 0 where
    pub total : ℕ
    pub is : plus v (bits_of imm) ≡ total
    pub within : InSpan u total
    pub top : total ≤ u.hi

  pub word_sum : (s u : Span) (v : ℕ) (imm : ℤ) → v < 2 ^ 64 → FitsSigned w64 imm → InSpan s v → moved_span s imm ≡ Some u → WordSum u v imm
  unfolding moved_span
  word_sum s u v (pos n) l f p = by (int_lt (pos n) (pos 0)) refl
    where
      by : (c : Bool) → int_lt (pos n) (pos 0) ≡ c → (if c then difference s (one n) else sum s (one n)) ≡ Some u → WordSum u v (pos n)
      by true e k = absurd (grind (arith, ints, nat_tests))
      by false e k = let h = sum_in s (one n) u v n p (one_in n) k in record { total = v + n; is = plus_is v n (omega (arith, h.1, h.2)); within = h.0; top = h.1 }
  word_sum s u v (negsuc n) l f p = λ k. let h = difference_in s (one (suc n)) u v (suc n) p (one_in (suc n)) k in record { total = v - suc n; is = minus_is v (suc n) h.order l; within = h.within; top = h.top }

module _ (regions : Regions) (apart : AreApart regions) where
  pub equal_same : (r : ℕ) (s t : Span) (a a' b b' : ℕ) → HoldsPtr regions r s a a' → HoldsPtr regions r t b b' → (a == b) ≡ (a' == b')
  equal_same r s t a a' b b' p q = grind (arith, nat_tests, p.old, p.new, q.old, q.new)

  pub zero_same : (r : ℕ) (t s : Span) (a a' : ℕ) → HoldsOpt regions r s a a' → (a == 0) ≡ (a' == 0)
  zero_same r t s a a' (nought e f) = rw (e, f) refl
  zero_same r t s a a' (pointed p) = let k = apart.old_begins r in let m = apart.new_begins r in grind (arith, nat_tests, p.old, p.new, k, m)
