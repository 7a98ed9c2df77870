-- The least kind that two kinds fit: values of either are of it.
use Rattle.std.proofs.Common.{◌≡◌, ℕ, ◌≤◌, ◌<◌, ◌+◌, ◌-◌, ◌/◌, ◌*◌, arith, Bool, true, false, refl, sym, ◌∙◌, ap, subst, inl, inr}
use Rattle.std.specs.Prelude.{◌==◌, ◌&&◌, ◌⊎◌, nat_le, min, max, if◌then◌else◌}
use Rattle.std.proofs.lemmas.Bool.Decides.{nat_tests}
use Rattle.std.proofs.Math.Nat.{mul_assoc, mul_comm, add-mul, mul-sub}
use Rattle.prov_types.specs.declared.kinds.Span.{Span}
use Rattle.prov_types.specs.declared.kinds.Kind.{Kind}
use Rattle.prov_types.specs.declared.kinds.Kind.TheVariants.{Any, Num, Ptr, Opt}
use Rattle.prov_types.specs.Spans.{InSpan, step_of, spanning, gcd}
use Rattle.prov_types.specs.Kinds.{Regions, Holds, HoldsNum, HoldsPtr, HoldsOpt, nought, pointed}
use Rattle.prov_types.specs.Fits.{is_null}
use Rattle.prov_layout.specs.Joins.{distance, join_spans, region_join, join}
use Rattle.prov_runs.proofs.Euclid.{left, right}
use Rattle.prov_runs.proofs.SpanLemmas.{Between, steps, spans, IsWhole, IsWholeKind, whole_kind}
use Rattle.prov_runs.specs.LoadLaws.{JoinHolds}

sub_mul : (n m k : ℕ) → (n - m) * k ≡ n * k - m * k
sub_mul n m k = mul_comm (n - m) k ∙ mul-sub k n m ∙ (λ i. mul_comm k n i - mul_comm k m i)

-- k steps, each a multiple of g
multiple : (g m step k : ℕ) → g * m ≡ step → k * step ≡ k * m * g
multiple g m step k e = ap (λ n. k * n) (sym e ∙ mul_comm g m) ∙ sym (mul_assoc k m g)

-- a step that divides three others
record Common (x y d : ℕ) : Type 0 where
  g : ℕ
  a : ℕ
  b : ℕ
  c : ℕ
  first : g * a ≡ x
  second : g * b ≡ y
  third : g * c ≡ d

common : (x y d : ℕ) → Common x y d
common x y d =
    let e = gcd x y in
    let g = gcd e d in
    let k = e / g in
    let up : g * k ≡ e = left e d in
    record {
      g = g;
      a = k * (x / e);
      b = k * (y / e);
      c = d / g;
      first = sym (mul_assoc g k (x / e)) ∙ ap (λ n. n * (x / e)) up ∙ left x y;
      second = sym (mul_assoc g k (y / e)) ∙ ap (λ n. n * (y / e)) up ∙ right x y;
      third = right e d;
    }

common_is : (x y d : ℕ) → (common x y d).g ≡ gcd (gcd x y) d
unfolding common
common_is x y d = refl

module _ (s t : Span) (k : Common (step_of s) (step_of t) (distance s.lo t.lo)) (whole : IsWhole t) (v : ℕ) (p : InSpan s v) where
  i : Between s.lo s.hi (step_of s) v
  i = steps s v p

  j : Between t.lo t.hi (step_of t) t.lo
  j = steps t t.lo whole

  i_up : i.up * step_of s ≡ i.up * k.a * k.g
  i_up = multiple k.g k.a (step_of s) i.up k.first

  i_down : i.down * step_of s ≡ i.down * k.a * k.g
  i_down = multiple k.g k.a (step_of s) i.down k.first

  j_down : j.down * step_of t ≡ j.down * k.b * k.g
  j_down = multiple k.g k.b (step_of t) j.down k.second

  gap : distance s.lo t.lo ≡ k.c * k.g
  gap = sym k.third ∙ mul_comm k.g k.c

  -- a number of steps, as its size says
  steps_up : (lo : ℕ) → lo ≡ min s.lo t.lo → (n : ℕ) × (v ≡ lo + n * k.g)
  steps_up lo e = by (nat_le s.lo t.lo) refl
    where
      by : (c : Bool) → nat_le s.lo t.lo ≡ c → (n : ℕ) × (v ≡ lo + n * k.g)
      by true f = let h : s.lo ≤ t.lo = grind (arith, nat_tests) in (i.up * k.a, let a = i.from_lo in omega (arith, a, e, h, i_up))
      by false f =
          let h : t.lo < s.lo = grind (arith, nat_tests) in
          let d : s.lo - t.lo ≡ k.c * k.g = rw f at gap in
          (k.c + i.up * k.a, let a = i.from_lo in omega (arith, a, e, h, i_up, d, add-mul k.c (i.up * k.a) k.g))

  steps_down : (hi : ℕ) → hi ≡ max s.hi t.hi → (n : ℕ) × (v + n * k.g ≡ hi)
  steps_down hi e = by (nat_le t.hi s.hi) (nat_le s.lo t.lo) refl refl
    where
      by : (b c : Bool) → nat_le t.hi s.hi ≡ b → nat_le s.lo t.lo ≡ c → (n : ℕ) × (v + n * k.g ≡ hi)
      by true c f l = let h : t.hi ≤ s.hi = grind (arith, nat_tests) in (i.down * k.a, let a = i.to_hi in omega (arith, a, e, h, i_down))
      by false true f l =
          let h : s.hi < t.hi = grind (arith, nat_tests) in
          let m : s.lo ≤ t.lo = grind (arith, nat_tests) in
          let d : t.lo - s.lo ≡ k.c * k.g = rw l at gap in
          let a = i.from_lo in let b = i.to_hi in let c = j.to_hi in
          let x = (k.c + j.down * k.b) in
          (x - i.up * k.a, omega (arith, a, b, c, e, h, m, d, i_up, j_down, add-mul k.c (j.down * k.b) k.g, sub_mul x (i.up * k.a) k.g))
      by false false f l =
          let h : s.hi < t.hi = grind (arith, nat_tests) in
          let m : t.lo < s.lo = grind (arith, nat_tests) in
          let d : s.lo - t.lo ≡ k.c * k.g = rw l at gap in
          let a = i.from_lo in let b = i.to_hi in let c = j.to_hi in
          let x = (k.c + i.up * k.a) in
          (j.down * k.b - x, omega (arith, a, b, c, e, h, m, d, i_up, j_down, add-mul k.c (i.up * k.a) k.g, sub_mul (j.down * k.b) x k.g))

  joined : InSpan (spanning (min s.lo t.lo) (max s.hi t.hi) k.g) v
  joined =
      let up = steps_up (min s.lo t.lo) refl in
      let down = steps_down (max s.hi t.hi) refl in
      spans (min s.lo t.lo) (max s.hi t.hi) k.g v (record { up = up.0; down = down.0; from_lo = up.1; to_hi = down.1 })

turned : (a b : ℕ) → distance a b ≡ distance b a
turned a b = by (nat_le a b) (nat_le b a) refl refl
  where
    by : (c d : Bool) → nat_le a b ≡ c → nat_le b a ≡ d → (if c then b - a else a - b) ≡ (if d then a - b else b - a)
    by true true e f = let h : a ≤ b = grind (arith, nat_tests) in let k : b ≤ a = grind (arith, nat_tests) in omega (arith, h, k)
    by true false e f = refl
    by false true e f = refl
    by false false e f = absurd (let h : b < a = grind (arith, nat_tests) in let k : a < b = grind (arith, nat_tests) in omega (arith, h, k))

pub first_in : (s t : Span) (v : ℕ) → IsWhole t → InSpan s v → InSpan (join_spans s t) v
unfolding join_spans
first_in s t v w p = subst (λ n. InSpan (spanning (min s.lo t.lo) (max s.hi t.hi) n) v) (common_is (step_of s) (step_of t) (distance s.lo t.lo)) (joined s t (common (step_of s) (step_of t) (distance s.lo t.lo)) w v p)

pub second_in : (s t : Span) (v : ℕ) → IsWhole s → InSpan t v → InSpan (join_spans s t) v
unfolding join_spans
second_in s t v w p =
    let k = common (step_of s) (step_of t) (distance s.lo t.lo) in
    let swapped : Common (step_of t) (step_of s) (distance t.lo s.lo) = record { g = k.g; a = k.b; b = k.a; c = k.c; first = k.second; second = k.first; third = k.third ∙ turned s.lo t.lo } in
    let low : min t.lo s.lo ≡ min s.lo t.lo = omega arith in
    let high : max t.hi s.hi ≡ max s.hi t.hi = omega arith in
    subst (λ n. InSpan (spanning (min s.lo t.lo) (max s.hi t.hi) n) v) (common_is (step_of s) (step_of t) (distance s.lo t.lo))
    (subst (λ n. InSpan (spanning (min s.lo t.lo) n k.g) v) high (subst (λ n. InSpan (spanning n (max t.hi s.hi) k.g) v) low (joined t s swapped w v p)))

joined_low : (s t : Span) → ((join_spans s t).lo ≡ s.lo) ⊎ ((join_spans s t).lo ≡ t.lo)
unfolding join_spans
joined_low s t = by (nat_le s.lo t.lo) refl
  where
    by : (c : Bool) → nat_le s.lo t.lo ≡ c → (min s.lo t.lo ≡ s.lo) ⊎ (min s.lo t.lo ≡ t.lo)
    by true e = let h : s.lo ≤ t.lo = grind (arith, nat_tests) in inl (omega (arith, h))
    by false e = let h : t.lo < s.lo = grind (arith, nat_tests) in inr (omega (arith, h))

whole_join : (s t : Span) → IsWhole s → IsWhole t → IsWhole (join_spans s t)
whole_join s t a b = by (joined_low s t)
  where
    by : ((join_spans s t).lo ≡ s.lo) ⊎ ((join_spans s t).lo ≡ t.lo) → IsWhole (join_spans s t)
    by (inl e) = subst (λ n. InSpan (join_spans s t) n) (sym e) (first_in s t s.lo b a)
    by (inr e) = subst (λ n. InSpan (join_spans s t) n) (sym e) (second_in s t t.lo a b)

module _ (g : Regions) where
  widen : (r : ℕ) (s u : Span) (v w : ℕ) → ((x : ℕ) → InSpan s x → InSpan u x) → HoldsPtr g r s v w → HoldsPtr g r u v w
  widen r s u v w f h = record { offset = h.offset; old = h.old; new = h.new; within = f h.offset h.within; inside = h.inside }

  widen_opt : (r : ℕ) (s u : Span) (v w : ℕ) → ((x : ℕ) → InSpan s x → InSpan u x) → HoldsOpt g r s v w → HoldsOpt g r u v w
  widen_opt r s u v w f (nought a b) = nought a b
  widen_opt r s u v w f (pointed h) = pointed (widen r s u v w f h)

  null_holds : (s : Span) (r : ℕ) (t : Span) (v w : ℕ) → is_null s ≡ true → HoldsNum s v w → HoldsOpt g r t v w
  null_holds s r t v w e h = by (s.lo == 0) (s.hi == 0) refl refl e
    where
      by : (a b : Bool) → (s.lo == 0) ≡ a → (s.hi == 0) ≡ b → (a && b) ≡ true → HoldsOpt g r t v w
      by true true k l m =
          let z : s.hi ≡ 0 = grind (arith, nat_tests) in
          let i = h.within in
          let is : v ≡ 0 = let a = i.to_hi in omega (arith, a, z) in
          nought is (sym h.same ∙ is)
      by true false k l m = absurd cc
      by false b k l m = absurd cc

  region : (f : ℕ → Span → Kind) (a b : Kind) (r q : ℕ) (s t : Span) → IsWhole s → IsWhole t
      → ((u : Span) → ((x : ℕ) → InSpan s x → InSpan u x) → (v w : ℕ) → Holds g a v w → Holds g (f r u) v w) → ((u : Span) → ((x : ℕ) → InSpan t x → InSpan u x) → q ≡ r → (v w : ℕ) → Holds g b v w → Holds g (f r u) v w)
      → ((u : Span) → IsWhole u → IsWholeKind (f r u))
      → ((v w : ℕ) → Holds g a v w → Holds g (region_join f r q s t) v w) × ((v w : ℕ) → Holds g b v w → Holds g (region_join f r q s t) v w) × IsWholeKind (region_join f r q s t)
  region f a b r q s t ws wt left_f right_f whole = by (r == q) refl
    where
      by : (c : Bool) → (r == q) ≡ c → ((v w : ℕ) → Holds g a v w → Holds g (if c then f r (join_spans s t) else Any) v w) × ((v w : ℕ) → Holds g b v w → Holds g (if c then f r (join_spans s t) else Any) v w) × IsWholeKind (if c then f r (join_spans s t) else Any)
      by true e =
          let same : q ≡ r = grind (arith, nat_tests) in
          (left_f (join_spans s t) (λ x h. first_in s t x wt h), right_f (join_spans s t) (λ x h. second_in s t x ws h) same, whole (join_spans s t) (whole_join s t ws wt))
      by false e = ((λ v w h. tt), (λ v w h. tt), tt)

-- a kind that the values of two others are of
pub record ServesBoth (g : Regions) (a b c : Kind) : Type 0 where
  pub first : (v w : ℕ) → Holds g a v w → Holds g c v w
  pub second : (v w : ℕ) → Holds g b v w → Holds g c v w
  pub whole : IsWholeKind c

pub joins_serve : (g : Regions) (a b : Kind) → IsWholeKind a → IsWholeKind b → ServesBoth g a b (join a b)
unfolding join
joins_serve g (Num s) (Num t) a b = record { first = λ v w h. record { same = h.same; within = first_in s t v b h.within }; second = λ v w h. record { same = h.same; within = second_in s t v a h.within }; whole = whole_join s t a b }
joins_serve g (Ptr r s) (Ptr q t) a b =
    let z = region g Ptr (Ptr r s) (Ptr q t) r q s t a b (λ u f v w h. widen g r s u v w f h) (λ u f e v w h. subst (λ n. HoldsPtr g n u v w) e (widen g q t u v w f h)) (λ u h. h) in
    record { first = z.0; second = z.1; whole = z.2 }
joins_serve g (Opt r s) (Opt q t) a b =
    let z = region g Opt (Opt r s) (Opt q t) r q s t a b (λ u f v w h. widen_opt g r s u v w f h) (λ u f e v w h. subst (λ n. HoldsOpt g n u v w) e (widen_opt g q t u v w f h)) (λ u h. h) in
    record { first = z.0; second = z.1; whole = z.2 }
joins_serve g (Ptr r s) (Opt q t) a b =
    let z = region g Opt (Ptr r s) (Opt q t) r q s t a b (λ u f v w h. pointed (widen g r s u v w f h)) (λ u f e v w h. subst (λ n. HoldsOpt g n u v w) e (widen_opt g q t u v w f h)) (λ u h. h) in
    record { first = z.0; second = z.1; whole = z.2 }
joins_serve g (Opt r s) (Ptr q t) a b =
    let z = region g Opt (Opt r s) (Ptr q t) r q s t a b (λ u f v w h. widen_opt g r s u v w f h) (λ u f e v w h. subst (λ n. HoldsOpt g n u v w) e (pointed (widen g q t u v w f h))) (λ u h. h) in
    record { first = z.0; second = z.1; whole = z.2 }
joins_serve g (Num s) (Ptr q t) a b = let z = by (is_null s) refl in record { first = z.first; second = z.second; whole = z.whole }
  where
    by : (c : Bool) → is_null s ≡ c → ServesBoth g (Num s) (Ptr q t) (if c then Opt q t else Any)
    by true e = record { first = λ v w h. null_holds g s q t v w e h; second = λ v w h. pointed h; whole = b }
    by false e = record { first = λ v w h. tt; second = λ v w h. tt; whole = tt }
joins_serve g (Num s) (Opt q t) a b = let z = by (is_null s) refl in record { first = z.first; second = z.second; whole = z.whole }
  where
    by : (c : Bool) → is_null s ≡ c → ServesBoth g (Num s) (Opt q t) (if c then Opt q t else Any)
    by true e = record { first = λ v w h. null_holds g s q t v w e h; second = λ v w h. h; whole = b }
    by false e = record { first = λ v w h. tt; second = λ v w h. tt; whole = tt }
joins_serve g (Ptr r s) (Num t) a b = let z = by (is_null t) refl in record { first = z.first; second = z.second; whole = z.whole }
  where
    by : (c : Bool) → is_null t ≡ c → ServesBoth g (Ptr r s) (Num t) (if c then Opt r s else Any)
    by true e = record { first = λ v w h. pointed h; second = λ v w h. null_holds g t r s v w e h; whole = a }
    by false e = record { first = λ v w h. tt; second = λ v w h. tt; whole = tt }
joins_serve g (Opt r s) (Num t) a b = let z = by (is_null t) refl in record { first = z.first; second = z.second; whole = z.whole }
  where
    by : (c : Bool) → is_null t ≡ c → ServesBoth g (Opt r s) (Num t) (if c then Opt r s else Any)
    by true e = record { first = λ v w h. h; second = λ v w h. null_holds g t r s v w e h; whole = a }
    by false e = record { first = λ v w h. tt; second = λ v w h. tt; whole = tt }
joins_serve g _ _ a b = record { first = λ v w h. tt; second = λ v w h. tt; whole = tt }

pub join_holds : JoinHolds
join_holds g a b v w p q (inl h) = (joins_serve g a b (whole_kind a p) (whole_kind b q)).first v w h
join_holds g a b v w p q (inr h) = (joins_serve g a b (whole_kind a p) (whole_kind b q)).second v w h
