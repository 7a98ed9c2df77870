-- `fits` and bounds are sound.
use Rattle.std.proofs.Common.{◌≡◌, ℕ, zero, suc, ◌≤◌, ◌<◌, ◌+◌, ◌-◌, ◌%◌, ◌/◌, ◌*◌, arith, Bool, true, false, refl, sym, ◌∙◌, ap, subst, Some, None}
use Rattle.std.specs.Prelude.{◌==◌, if◌then◌else◌, ◌&&◌, not, nat_lt}
use Rattle.std.proofs.lemmas.Bool.Decides.{nat_tests}
use Rattle.std.proofs.lemmas.Nat.{le-div, div-add-mod'}
use Rattle.std.proofs.Math.Nat.{mod_self, mod-eq_of_lt, dvd_trans, dvd_of_mod-eq-zero, mod-eq-zero_of_dvd, dvd-add, mul_assoc, mul_comm, add-mul, mul-sub, mul-le-mul_right}
use Rattle.prov_types.specs.declared.kinds.Span.{Span}
use Rattle.prov_types.specs.declared.kinds.Kind.TheVariants.{Any, Num, Ptr, Opt}
use Rattle.prov_types.proofs.SpanLemmas.{steps, spans}
use Rattle.prov_types.specs.Fits.{fits, inside, is_null}
use Rattle.prov_types.specs.Kinds.{HoldsNum, HoldsOpt, HoldsPtr, Regions, nought, pointed}
use Rattle.prov_types.specs.Laws.{FitsIsReflexive, FitsIsSound, FitsIsTransitive}
use Rattle.prov_types.specs.Narrow.{capped, floored}
use Rattle.prov_types.specs.Spans.{InSpan, IsProper, spanning, step_of}

sub_mul : (n m k : ℕ) → (n - m) * k ≡ n * k - m * k
sub_mul n m k = mul_comm (n - m) k ∙ mul-sub k n m ∙ (λ i. mul_comm k n i - mul_comm k m i)

-- what `inside` says
pub record Within (s t : Span) : Type 0 where
  pub low : t.lo ≤ s.lo
  pub high : s.hi ≤ t.hi
  pub step : step_of s % t.by ≡ 0
  pub first : (s.lo - t.lo) % t.by ≡ 0

pub within : (s t : Span) → inside s t ≡ true → Within s t
unfolding inside
within s t h = by (nat_lt s.lo t.lo) (nat_lt t.hi s.hi) (step_of s % t.by == 0) ((s.lo - t.lo) % t.by == 0) refl refl refl refl h
  where
    by : (a b c d : Bool) → nat_lt s.lo t.lo ≡ a → nat_lt t.hi s.hi ≡ b → (step_of s % t.by == 0) ≡ c → ((s.lo - t.lo) % t.by == 0) ≡ d
        → (not a && (not b && (c && d))) ≡ true → Within s t
    by false false true true p q r u k = record { low = grind (arith, nat_tests); high = grind (arith, nat_tests); step = grind (arith, nat_tests); first = grind (arith, nat_tests) }
    by true b c d p q r u k = absurd cc
    by false true c d p q r u k = absurd cc
    by false false false d p q r u k = absurd cc
    by false false true false p q r u k = absurd cc

inside_in : (s t : Span) (v : ℕ) → IsProper t → inside s t ≡ true → InSpan s v → InSpan t v
inside_in s t v proper h p =
    let w = within s t h in
    let i = steps s v p in
    let k = step_of s / t.by in
    let m = (s.lo - t.lo) / t.by in
    let n = (t.hi - t.lo) / t.by in
    let ek = div-add-mod' (step_of s) t.by in
    let em = div-add-mod' (s.lo - t.lo) t.by in
    let en = div-add-mod' (t.hi - t.lo) t.by in
    let up = i.up * k + m in
    let es : k * t.by ≡ step_of s = omega (arith, ek, w.step) in
    let eu : i.up * k * t.by ≡ i.up * step_of s = mul_assoc i.up k t.by ∙ ap (λ z. i.up * z) es in
    let at : v ≡ t.lo + up * t.by = omega (arith, i.from_lo, eu, em, w.first, w.low, add-mul (i.up * k) m t.by) in
    let below : v ≤ t.hi = omega (arith, i.to_hi, w.high) in
    let ends : n * t.by ≡ t.hi - t.lo = omega (arith, en, proper.whole) in
    record { up = up; down = n - up; from_lo = at; to_hi = omega (arith, sub_mul n up t.by, at, below, ends, proper.order) }

fits_ptr : (regions : Regions) (r q : ℕ) (s t : Span) (v w : ℕ) → IsProper t → (r == q && inside s t) ≡ true → HoldsPtr regions r s v w → HoldsPtr regions q t v w
fits_ptr regions r q s t v w proper h p = by (r == q) (inside s t) refl refl h
  where
    by : (a b : Bool) → (r == q) ≡ a → inside s t ≡ b → (a && b) ≡ true → HoldsPtr regions q t v w
    by true true e f k =
        let same : r ≡ q = grind (arith, nat_tests) in
        subst (λ n. HoldsPtr regions n t v w) same (record { offset = p.offset; old = p.old; new = p.new; within = inside_in s t p.offset proper f p.within; inside = p.inside })
    by true false e f k = absurd cc
    by false b e f k = absurd cc

fits_null : (regions : Regions) (q : ℕ) (s t : Span) (v w : ℕ) → (s.lo == 0 && s.hi == 0) ≡ true → HoldsNum s v w → HoldsOpt regions q t v w
fits_null regions q s t v w h p = by (s.lo == 0) (s.hi == 0) refl refl h
  where
    by : (a b : Bool) → (s.lo == 0) ≡ a → (s.hi == 0) ≡ b → (a && b) ≡ true → HoldsOpt regions q t v w
    by true true e f k =
        let zero_hi : s.hi ≡ 0 = grind (arith, nat_tests) in
        let is : v ≡ 0 = let g = (p.within).to_hi in omega (arith, g, zero_hi) in
        nought is (sym p.same ∙ is)
    by true false e f k = absurd cc
    by false b e f k = absurd cc

fits_opt : (regions : Regions) (r q : ℕ) (s t : Span) (v w : ℕ) → IsProper t → (r == q && inside s t) ≡ true → HoldsOpt regions r s v w → HoldsOpt regions q t v w
fits_opt regions r q s t v w proper h (nought a b) = nought a b
fits_opt regions r q s t v w proper h (pointed p) = pointed (fits_ptr regions r q s t v w proper h p)

pub fits_sound : FitsIsSound
unfolding fits
fits_sound regions a Any v w proper h p = tt
fits_sound regions (Num s) (Num t) v w proper h p = record { same = p.same; within = inside_in s t v proper h p.within }
fits_sound regions (Ptr r s) (Ptr q t) v w proper h p = fits_ptr regions r q s t v w proper h p
fits_sound regions (Opt r s) (Opt q t) v w proper h p = fits_opt regions r q s t v w proper h p
fits_sound regions (Ptr r s) (Opt q t) v w proper h p = pointed (fits_ptr regions r q s t v w proper h p)
fits_sound regions (Num s) (Opt q t) v w proper h p = fits_null regions q s t v w h p
fits_sound regions _ _ v w proper h p = absurd cc

-- so many whole steps go into less than one
no_steps : (n by room : ℕ) → n * by ≤ room → room < by → n ≡ 0
no_steps zero by room h k = refl
no_steps (suc n) by room h k = absurd (omega (arith, mul-le-mul_right by (one_le n)))
  where
    one_le : (n : ℕ) → 1 ≤ suc n
    one_le n = omega arith

cap_in : (lo by top v up : ℕ) → 0 < by → v ≡ lo + up * by → v ≤ top → InSpan (spanning lo (lo + (top - lo) / by * by) (if nat_lt top (lo + by) then 0 else by)) v
cap_in lo by top v up large at l = test (nat_lt top (lo + by)) refl
  where
    test : (c : Bool) → nat_lt top (lo + by) ≡ c → InSpan (spanning lo (lo + (top - lo) / by * by) (if c then 0 else by)) v
    test true e =
        let less : top < lo + by = grind (arith, nat_tests) in
        let whole = div-add-mod' (top - lo) by in
        let first : up ≡ 0 = no_steps up by (top - lo) (omega arith) (omega arith) in
        let is : v ≡ lo = at ∙ ap (λ z. lo + z * by) first ∙ omega arith in
        let nought : (top - lo) / by ≡ 0 = no_steps ((top - lo) / by) by (top - lo) (omega (arith, whole)) (omega arith) in
        let end : (top - lo) / by * by ≡ 0 = ap (λ z. z * by) nought ∙ omega arith in
        spans lo _ 0 v (record { up = 0; down = 0; from_lo = omega arith; to_hi = omega (arith, is, end) })
    test false e =
        let n = (top - lo) / by in
        let fits : up ≤ n = le-div up (top - lo) by large (omega arith) in
        let far = mul-le-mul_right by fits in
        spans lo _ by v (record { up = up; down = n - up; from_lo = at; to_hi = omega (arith, at, far, sub_mul n up by) })

pub caps : (s : Span) (top v : ℕ) → IsProper s → InSpan s v → v ≤ top → (u : Span) × (capped s top ≡ Some u) × InSpan u v
unfolding capped
caps s top v proper p l = by (nat_lt top s.lo) (nat_lt top s.hi) refl
  where
    by : (a b : Bool) → nat_lt top s.lo ≡ a
        → (u : Span) × ((if a then None else (if b then Some (spanning s.lo (s.lo + (top - s.lo) / s.by * s.by) (if nat_lt top (s.lo + s.by) then 0 else s.by)) else Some s)) ≡ Some u) × InSpan u v
    by true b e = let h : top < s.lo = grind (arith, nat_tests) in let at = p.from_lo in absurd (omega (arith, h, at))
    by false true e = (_, refl, cap_in s.lo s.by top v p.up proper.steps p.from_lo l)
    by false false e = (s, refl, p)

floor_in : (hi by bottom v down : ℕ) → 0 < by → v + down * by ≡ hi → bottom ≤ v → InSpan (spanning (hi - (hi - bottom) / by * by) hi (if nat_lt hi (bottom + by) then 0 else by)) v
floor_in hi by bottom v down large at l = test (nat_lt hi (bottom + by)) refl
  where
    test : (c : Bool) → nat_lt hi (bottom + by) ≡ c → InSpan (spanning (hi - (hi - bottom) / by * by) hi (if c then 0 else by)) v
    test true e =
        let less : hi < bottom + by = grind (arith, nat_tests) in
        let whole = div-add-mod' (hi - bottom) by in
        let first : down ≡ 0 = no_steps down by (hi - bottom) (omega arith) (omega arith) in
        let is : v + 0 * by ≡ hi = ap (λ z. v + z * by) (sym first) ∙ at in
        let nought : (hi - bottom) / by ≡ 0 = no_steps ((hi - bottom) / by) by (hi - bottom) (omega (arith, whole)) (omega arith) in
        let end : (hi - bottom) / by * by ≡ 0 = ap (λ z. z * by) nought ∙ omega arith in
        spans _ hi 0 v (record { up = 0; down = 0; from_lo = omega (arith, is, end); to_hi = omega (arith, is) })
    test false e =
        let n = (hi - bottom) / by in
        let whole = div-add-mod' (hi - bottom) by in
        let fits : down ≤ n = le-div down (hi - bottom) by large (omega arith) in
        let far = mul-le-mul_right by fits in
        spans _ hi by v (record { up = n - down; down = down; from_lo = omega (arith, at, far, whole, sub_mul n down by); to_hi = at })

pub floors : (s : Span) (bottom v : ℕ) → IsProper s → InSpan s v → bottom ≤ v → (u : Span) × (floored s bottom ≡ Some u) × InSpan u v
unfolding floored
floors s bottom v proper p l = by (nat_lt s.hi bottom) (nat_lt s.lo bottom) refl
  where
    by : (a b : Bool) → nat_lt s.hi bottom ≡ a
        → (u : Span) × ((if a then None else (if b then Some (spanning (s.hi - (s.hi - bottom) / s.by * s.by) s.hi (if nat_lt s.hi (bottom + s.by) then 0 else s.by)) else Some s)) ≡ Some u) × InSpan u v
    by true b e = let h : s.hi < bottom = grind (arith, nat_tests) in let at = p.to_hi in absurd (omega (arith, h, at))
    by false true e = (_, refl, floor_in s.hi s.by bottom v p.down proper.steps p.to_hi l)
    by false false e = (s, refl, p)

-- so many steps above the low end, and at most the high one
pub one_sided : (s : Span) (v i : ℕ) → IsProper s → v ≡ s.lo + i * s.by → v ≤ s.hi → InSpan s v
one_sided s v i proper at h =
    let n = (s.hi - s.lo) / s.by in
    let en = div-add-mod' (s.hi - s.lo) s.by in
    let ends : n * s.by ≡ s.hi - s.lo = omega (arith, en, proper.whole) in
    record { up = i; down = n - i; from_lo = at; to_hi = omega (arith, sub_mul n i s.by, ends, proper.order) }

pub inside_is : (s t : Span) → Within s t → inside s t ≡ true
unfolding inside
inside_is s t w =
    let a : nat_lt s.lo t.lo ≡ false = let h = w.low in grind (arith, nat_tests, h) in
    let b : nat_lt t.hi s.hi ≡ false = let h = w.high in grind (arith, nat_tests, h) in
    let c : (step_of s % t.by == 0) ≡ true = let h = w.step in grind (arith, nat_tests, h) in
    let d : ((s.lo - t.lo) % t.by == 0) ≡ true = let h = w.first in grind (arith, nat_tests, h) in
    rw (a, b, c, d) refl

-- a number of whole steps
pub zero_mod : (n : ℕ) → 0 < n → 0 % n ≡ 0
zero_mod n h = mod-eq_of_lt h

step_whole : (s : Span) → IsProper s → step_of s % s.by ≡ 0
step_whole s p = by (s.lo == s.hi)
  where
    by : (c : Bool) → (if c then 0 else s.by) % s.by ≡ 0
    by true = zero_mod s.by p.steps
    by false = mod_self s.by

pub inside_self : (s : Span) → IsProper s → inside s s ≡ true
inside_self s p = inside_is s s (record { low = omega arith; high = omega arith; step = step_whole s p; first = let z : s.lo - s.lo ≡ 0 = omega arith in ap (λ n. n % s.by) z ∙ zero_mod s.by p.steps })

pub fits_reflexive : FitsIsReflexive
unfolding fits
fits_reflexive Any p = refl
fits_reflexive (Num s) p = inside_self s p
fits_reflexive (Ptr r s) p = let same : (r == r) ≡ true = grind (arith, nat_tests) in rw (same, inside_self s p) refl
fits_reflexive (Opt r s) p = let same : (r == r) ≡ true = grind (arith, nat_tests) in rw (same, inside_self s p) refl

-- a step that divides the step of a span with several numbers, and all distances in it
through : (s t u : Span) → IsProper s → IsProper u → Within s t → Within t u → Within s u
through s t u ps pu a b = by (t.lo == t.hi) refl
  where
    low : u.lo ≤ s.lo
    low = let x = a.low in let y = b.low in omega (arith, x, y)

    high : s.hi ≤ u.hi
    high = let x = a.high in let y = b.high in omega (arith, x, y)

    apart : s.lo - u.lo ≡ (s.lo - t.lo) + (t.lo - u.lo)
    apart = let x = a.low in let y = b.low in omega (arith, x, y)

    by : (c : Bool) → (t.lo == t.hi) ≡ c → Within s u
    by true e =
        let one_t : t.lo ≡ t.hi = grind (arith, nat_tests) in
        let x = a.low in let y = a.high in let z = ps.order in
        let one_s : (s.lo == s.hi) ≡ true = let w : s.lo ≡ s.hi = omega (arith, x, y, z, one_t) in grind (arith, nat_tests, w) in
        let same : s.lo - u.lo ≡ t.lo - u.lo = omega (arith, x, y, z, one_t) in
        record { low = low; high = high; step = rw one_s (zero_mod u.by pu.steps); first = ap (λ n. n % u.by) same ∙ b.first }
    by false e =
        let step_t : t.by % u.by ≡ 0 = rw e at b.step in
        let d = dvd_of_mod-eq-zero u.by step_t in
        let step_s = dvd_trans u.by d (dvd_of_mod-eq-zero t.by a.step) in
        let gap = dvd_trans u.by d (dvd_of_mod-eq-zero t.by a.first) in
        let sum = dvd-add u.by gap (dvd_of_mod-eq-zero u.by b.first) in
        record { low = low; high = high; step = mod-eq-zero_of_dvd u.by step_s; first = ap (λ n. n % u.by) apart ∙ mod-eq-zero_of_dvd u.by sum }

inside_through : (s t u : Span) → IsProper s → IsProper u → inside s t ≡ true → inside t u ≡ true → inside s u ≡ true
inside_through s t u ps pu a b = inside_is s u (through s t u ps pu (within s t a) (within t u b))

region_through : (r q o : ℕ) (s t u : Span) → IsProper s → IsProper u → (r == q && inside s t) ≡ true → (q == o && inside t u) ≡ true → (r == o && inside s u) ≡ true
region_through r q o s t u ps pu a b = by (r == q) (q == o) (inside s t) (inside t u) refl refl refl refl a b
  where
    by : (c d x y : Bool) → (r == q) ≡ c → (q == o) ≡ d → inside s t ≡ x → inside t u ≡ y → (c && x) ≡ true → (d && y) ≡ true → (r == o && inside s u) ≡ true
    by true true true true e f i j a b = let same : (r == o) ≡ true = grind (arith, nat_tests) in rw (same, inside_through s t u ps pu i j) refl
    by false d x y e f i j a b = absurd cc
    by true d false y e f i j a b = absurd cc
    by true false true y e f i j a b = absurd cc
    by true true true false e f i j a b = absurd cc

-- what is inside a span of 0 alone is 0 alone
null_through : (s t : Span) → IsProper s → inside s t ≡ true → is_null t ≡ true → is_null s ≡ true
null_through s t ps a b = by (t.lo == 0) (t.hi == 0) refl refl b
  where
    by : (c d : Bool) → (t.lo == 0) ≡ c → (t.hi == 0) ≡ d → (c && d) ≡ true → is_null s ≡ true
    by true true e f k =
        let w = within s t a in
        let x = w.low in let y = w.high in let z = ps.order in
        let top : t.hi ≡ 0 = grind (arith, nat_tests) in
        let lo : s.lo ≡ 0 = omega (arith, y, z, top) in
        let hi : s.hi ≡ 0 = omega (arith, y, top) in
        let first : (s.lo == 0) ≡ true = grind (arith, nat_tests, lo) in
        let second : (s.hi == 0) ≡ true = grind (arith, nat_tests, hi) in
        rw (first, second) refl
    by true false e f k = absurd cc
    by false d e f k = absurd cc

pub fits_transitive : FitsIsTransitive
unfolding fits
fits_transitive a b Any pa pb pc h k = refl
fits_transitive (Num s) (Num t) (Num u) pa pb pc h k = inside_through s t u pa pc h k
fits_transitive (Num s) (Num t) (Opt o u) pa pb pc h k = null_through s t pa h k
fits_transitive (Num s) (Opt q t) (Opt o u) pa pb pc h k = h
fits_transitive (Ptr r s) (Ptr q t) (Ptr o u) pa pb pc h k = region_through r q o s t u pa pc h k
fits_transitive (Ptr r s) (Ptr q t) (Opt o u) pa pb pc h k = region_through r q o s t u pa pc h k
fits_transitive (Ptr r s) (Opt q t) (Opt o u) pa pb pc h k = region_through r q o s t u pa pc h k
fits_transitive (Opt r s) (Opt q t) (Opt o u) pa pb pc h k = region_through r q o s t u pa pc h k
fits_transitive Any Any (Num u) pa pb pc h k = absurd cc
fits_transitive Any Any (Ptr o u) pa pb pc h k = absurd cc
fits_transitive Any Any (Opt o u) pa pb pc h k = absurd cc
fits_transitive (Num s) Any (Num u) pa pb pc h k = absurd cc
fits_transitive (Num s) Any (Ptr o u) pa pb pc h k = absurd cc
fits_transitive (Num s) Any (Opt o u) pa pb pc h k = absurd cc
fits_transitive (Ptr r s) Any (Num u) pa pb pc h k = absurd cc
fits_transitive (Ptr r s) Any (Ptr o u) pa pb pc h k = absurd cc
fits_transitive (Ptr r s) Any (Opt o u) pa pb pc h k = absurd cc
fits_transitive (Opt r s) Any (Num u) pa pb pc h k = absurd cc
fits_transitive (Opt r s) Any (Ptr o u) pa pb pc h k = absurd cc
fits_transitive (Opt r s) Any (Opt o u) pa pb pc h k = absurd cc
fits_transitive _ _ _ pa pb pc h k = absurd cc
