-- What branches leave of proper spans is proper.
use Rattle.std.proofs.Common.{◌≡◌, ℕ, ◌≤◌, ◌<◌, ◌+◌, ◌-◌, ◌%◌, ◌*◌, ◌/◌, arith, Bool, true, false, refl, ◌∙◌, ap, subst, Option, Some, None}
use Rattle.std.specs.Prelude.{◌==◌, ◌&&◌, ◌≢◌, not, if◌then◌else◌, nat_lt}
use Rattle.std.proofs.lemmas.Bool.Decides.{nat_tests}
use Rattle.std.proofs.Math.Nat.{add-mul-mod_self_left, mul_comm}
use Rattle.rv_decode.specs.declared.insn.Op.{Op}
use Rattle.prov_types.specs.declared.kinds.Span.{Span}
use Rattle.prov_types.specs.declared.kinds.Kind.{Kind}
use Rattle.prov_types.specs.declared.kinds.Kind.TheVariants.{Any, Num, Ptr, Opt}
use Rattle.prov_types.specs.declared.edges.Said.{Said}
use Rattle.prov_types.specs.declared.edges.Said.TheVariants.{Below, Equal, NotBelow, Nothing, Unlike}
use Rattle.prov_types.specs.Spans.{IsProper, InSpan, spanning, one}
use Rattle.prov_types.specs.Kinds.{IsProperKind}
use Rattle.prov_types.specs.Fits.{is_null}
use Rattle.prov_types.specs.Narrow.{capped, floored, without_end, only, below_some, above_some, equal_some, unlike_some, pair_of, said_by, narrow_numbers, narrow_pointers, says_equal, against_null, is_equality, narrow_between, narrow}
use Rattle.prov_types.specs.Laws.{AreProper, NarrowIsProper}
use Rattle.prov_types.proofs.BoundLemmas.{caps, floors, zero_mod}
use Rattle.prov_types.proofs.EdgeLemmas.{without_left}
use Rattle.prov_types.proofs.ProperLemmas.{low_in, high_in, one_proper, either}

-- a span with a step that has a number
in_proper : (s : Span) (v : ℕ) → 0 < s.by → InSpan s v → IsProper s
in_proper s v h p =
    let a = p.from_lo in
    let b = p.to_hi in
    let gap : s.hi - s.lo ≡ 0 + s.by * (p.up + p.down) = omega (arith, a, b, mul_comm s.by (p.up + p.down)) in
    record { steps = h; order = omega (arith, a, b); whole = ap (λ n. n % s.by) gap ∙ add-mul-mod_self_left 0 s.by (p.up + p.down) ∙ zero_mod s.by h }

step_there : (lo hi step : ℕ) → 0 < (spanning lo hi step).by
step_there lo hi step = by (step == 0) refl
  where
    by : (c : Bool) → (step == 0) ≡ c → 0 < (if c then 1 else step)
    by true e = omega arith
    by false e = grind (arith, nat_tests, e)

-- the span that there is, with a number of it
found : (o : Option Span) (u v : Span) (n : ℕ) → o ≡ Some u → o ≡ Some v → InSpan v n → InSpan u n
found o u v n e f p = let same : v ≡ u = cc in subst (λ w. InSpan w n) same p

capped_steps : (s : Span) (top : ℕ) (u : Span) → 0 < s.by → capped s top ≡ Some u → (0 < u.by) × (s.lo ≤ top)
unfolding capped
capped_steps s top u h = by (nat_lt top s.lo) (nat_lt top s.hi) refl
  where
    by : (a b : Bool) → nat_lt top s.lo ≡ a → (if a then None else (if b then Some (spanning s.lo (s.lo + (top - s.lo) / s.by * s.by) (if nat_lt top (s.lo + s.by) then 0 else s.by)) else Some s)) ≡ Some u → (0 < u.by) × (s.lo ≤ top)
    by true b e k = cc
    by false true e k =
        let made : Span = spanning s.lo (s.lo + (top - s.lo) / s.by * s.by) (if nat_lt top (s.lo + s.by) then 0 else s.by) in
        let same : made ≡ u = cc in
        (subst (λ (w : Span). 0 < w.by) same (step_there s.lo (s.lo + (top - s.lo) / s.by * s.by) (if nat_lt top (s.lo + s.by) then 0 else s.by)), grind (arith, nat_tests, e))
    by false false e k = let same : s ≡ u = cc in (subst (λ (w : Span). 0 < w.by) same h, grind (arith, nat_tests, e))

capped_proper : (s : Span) (top : ℕ) (u : Span) → IsProper s → capped s top ≡ Some u → IsProper u
capped_proper s top u p e =
    let k = capped_steps s top u p.steps e in
    let c = caps s top s.lo p (low_in s p) k.1 in
    in_proper u s.lo k.0 (found (capped s top) u c.0 s.lo e c.1 c.2)

floored_steps : (s : Span) (bottom : ℕ) (u : Span) → 0 < s.by → floored s bottom ≡ Some u → (0 < u.by) × (bottom ≤ s.hi)
unfolding floored
floored_steps s bottom u h = by (nat_lt s.hi bottom) (nat_lt s.lo bottom) refl
  where
    by : (a b : Bool) → nat_lt s.hi bottom ≡ a → (if a then None else (if b then Some (spanning (s.hi - (s.hi - bottom) / s.by * s.by) s.hi (if nat_lt s.hi (bottom + s.by) then 0 else s.by)) else Some s)) ≡ Some u → (0 < u.by) × (bottom ≤ s.hi)
    by true b e k = cc
    by false true e k =
        let made : Span = spanning (s.hi - (s.hi - bottom) / s.by * s.by) s.hi (if nat_lt s.hi (bottom + s.by) then 0 else s.by) in
        let same : made ≡ u = cc in
        (subst (λ (w : Span). 0 < w.by) same (step_there (s.hi - (s.hi - bottom) / s.by * s.by) s.hi (if nat_lt s.hi (bottom + s.by) then 0 else s.by)), grind (arith, nat_tests, e))
    by false false e k = let same : s ≡ u = cc in (subst (λ (w : Span). 0 < w.by) same h, grind (arith, nat_tests, e))

floored_proper : (s : Span) (bottom : ℕ) (u : Span) → IsProper s → floored s bottom ≡ Some u → IsProper u
floored_proper s bottom u p e =
    let k = floored_steps s bottom u p.steps e in
    let c = floors s bottom s.hi p (high_in s p) k.1 in
    in_proper u s.hi k.0 (found (floored s bottom) u c.0 s.hi e c.1 c.2)

-- what is left without an end has a step, and the span had another number
without_steps : (s : Span) (x : ℕ) (u : Span) → 0 < s.by → without_end s x ≡ Some u → (0 < u.by) × ((s.lo == x) ≡ true → (s.lo == s.hi) ≡ false)
unfolding without_end
without_steps s x u h = by (s.lo == s.hi) (s.lo == x) (s.hi == x) (if s.lo + s.by == s.hi then 0 else s.by)
  where
    by : (l m n : Bool) (step : ℕ) → (if l then (if m then None else Some s) else (if m then Some (spanning (s.lo + s.by) s.hi step) else (if n then Some (spanning s.lo (s.hi - s.by) step) else Some s))) ≡ Some u → (0 < u.by) × (m ≡ true → l ≡ false)
    by true true n step k = cc
    by true false n step k = let same : s ≡ u = cc in (subst (λ (w : Span). 0 < w.by) same h, λ z. cc)
    by false true n step k = let same : spanning (s.lo + s.by) s.hi step ≡ u = cc in (subst (λ (w : Span). 0 < w.by) same (step_there (s.lo + s.by) s.hi step), λ z. refl)
    by false false true step k = let same : spanning s.lo (s.hi - s.by) step ≡ u = cc in (subst (λ (w : Span). 0 < w.by) same (step_there s.lo (s.hi - s.by) step), λ z. refl)
    by false false false step k = let same : s ≡ u = cc in (subst (λ (w : Span). 0 < w.by) same h, λ z. refl)

unlike : (a b : ℕ) → (a == b) ≡ false → a ≢ b
unlike a b e = λ h. absurd (grind (arith, nat_tests))

without_proper : (s : Span) (x : ℕ) (u : Span) → IsProper s → without_end s x ≡ Some u → IsProper u
without_proper s x u p e = let k = without_steps s x u p.steps e in by k.0 k.1 (s.lo == x) refl
  where
    by : 0 < u.by → ((s.lo == x) ≡ true → (s.lo == s.hi) ≡ false) → (m : Bool) → (s.lo == x) ≡ m → IsProper u
    by h f false m = let l = without_left s s.lo x p (low_in s p) (unlike s.lo x m) in in_proper u s.lo h (found (without_end s x) u l.span s.lo e l.is l.within)
    by h f true m =
        let other : (s.lo == s.hi) ≡ false = f m in
        let first : s.lo ≡ x = grind (arith, nat_tests, m) in
        let last : (s.hi == x) ≡ false = grind (arith, nat_tests, other, first) in
        let l = without_left s s.hi x p (high_in s p) (unlike s.hi x last) in
        in_proper u s.hi h (found (without_end s x) u l.span s.hi e l.is l.within)

only_proper : (s : Span) (v : ℕ) (u : Span) → only s v ≡ Some u → IsProper u
unfolding only
only_proper s v u = by (not (nat_lt v s.lo) && (not (nat_lt s.hi v) && (v - s.lo) % s.by == 0))
  where
    by : (c : Bool) → (if c then Some (one v) else None) ≡ Some u → IsProper u
    by true k = let same : one v ≡ u = cc in subst IsProper same (one_proper v)
    by false k = cc

same_proper : (s u : Span) → IsProper s → Some s ≡ Some u → IsProper u
same_proper s u p e = let same : s ≡ u = cc in subst IsProper same p

below_some_proper : (s t u : Span) → IsProper s → below_some s t ≡ Some u → IsProper u
unfolding below_some
below_some_proper s t u p = by (t.hi == 0)
  where
    by : (c : Bool) → (if c then None else capped s (t.hi - 1)) ≡ Some u → IsProper u
    by true k = cc
    by false k = capped_proper s (t.hi - 1) u p k

above_some_proper : (s t u : Span) → IsProper s → above_some s t ≡ Some u → IsProper u
unfolding above_some
above_some_proper s t u p k = floored_proper s (t.lo + 1) u p k

equal_some_proper : (s t u : Span) → IsProper s → equal_some s t ≡ Some u → IsProper u
unfolding equal_some
equal_some_proper s t u p = by (t.lo == t.hi)
  where
    by : (c : Bool) → (if c then only s t.lo else Some s) ≡ Some u → IsProper u
    by true k = only_proper s t.lo u k
    by false k = same_proper s u p k

unlike_some_proper : (s t u : Span) → IsProper s → unlike_some s t ≡ Some u → IsProper u
unfolding unlike_some
unlike_some_proper s t u p = by (t.lo == t.hi)
  where
    by : (c : Bool) → (if c then without_end s t.lo else Some s) ≡ Some u → IsProper u
    by true k = without_proper s t.lo u p k
    by false k = same_proper s u p k

pair_proper : (f h : Span → Kind) (o w : Option Span) → ((s : Span) → IsProper s → IsProperKind (f s)) → ((s : Span) → IsProper s → IsProperKind (h s)) → ((u : Span) → o ≡ Some u → IsProper u) → ((u : Span) → w ≡ Some u → IsProper u) → AreProper (pair_of f h o w)
pair_proper f h (Some s) (Some t) i j k l = (i s (k s refl), j t (l t refl))
pair_proper f h (Some s) None i j k l = tt
pair_proper f h None (Some t) i j k l = tt
pair_proper f h None None i j k l = tt

numbers_proper : (x : Said) (s t : Span) → IsProper s → IsProper t → AreProper (narrow_numbers x s t)
unfolding narrow_numbers
numbers_proper Below s t p q = pair_proper Num Num (below_some s t) (above_some t s) (λ s p. p) (λ s p. p) (λ u. below_some_proper s t u p) (λ u. above_some_proper t s u q)
numbers_proper NotBelow s t p q = pair_proper Num Num (floored s t.lo) (capped t s.hi) (λ s p. p) (λ s p. p) (λ u. floored_proper s t.lo u p) (λ u. capped_proper t s.hi u q)
numbers_proper Equal s t p q = pair_proper Num Num (equal_some s t) (equal_some t s) (λ s p. p) (λ s p. p) (λ u. equal_some_proper s t u p) (λ u. equal_some_proper t s u q)
numbers_proper Unlike s t p q = pair_proper Num Num (unlike_some s t) (unlike_some t s) (λ s p. p) (λ s p. p) (λ u. unlike_some_proper s t u p) (λ u. unlike_some_proper t s u q)
numbers_proper Nothing s t p q = (p, q)

pointers_proper : (x : Said) (r q : ℕ) (s t : Span) → IsProper s → IsProper t → AreProper (narrow_pointers x r q s t)
unfolding narrow_pointers
pointers_proper Unlike r q s t a b = by (r == q)
  where
    by : (c : Bool) → AreProper (if c then pair_of (Ptr r) (Ptr q) (unlike_some s t) (unlike_some t s) else Some (Ptr r s, Ptr q t))
    by true = pair_proper (Ptr r) (Ptr q) (unlike_some s t) (unlike_some t s) (λ s p. p) (λ s p. p) (λ u. unlike_some_proper s t u a) (λ u. unlike_some_proper t s u b)
    by false = (a, b)
pointers_proper Below r q s t a b = (a, b)
pointers_proper NotBelow r q s t a b = (a, b)
pointers_proper Equal r q s t a b = (a, b)
pointers_proper Nothing r q s t a b = (a, b)

null_proper : (op : Op) (went : Bool) (r : ℕ) (s t : Span) → IsProper s → IsProperKind (if is_equality op && is_null t then against_null op went r s else Opt r s)
unfolding against_null
null_proper op went r s t p = either (is_equality op && is_null t) (if says_equal op went then Num (one 0) else Ptr r s) (Opt r s) (either (says_equal op went) (Num (one 0)) (Ptr r s) (one_proper 0) p) p

between_proper : (op : Op) (went : Bool) (a b : Kind) → IsProperKind a → IsProperKind b → AreProper (narrow_between op went a b)
unfolding narrow_between
between_proper op went (Num s) (Num t) p q = numbers_proper (said_by op went s t) s t p q
between_proper op went (Ptr r s) (Ptr o t) p q = pointers_proper (said_by op went s t) r o s t p q
between_proper op went (Opt r s) (Num t) p q = (null_proper op went r s t p, q)
between_proper op went (Num s) (Opt r t) p q = (p, null_proper op went r t s q)
between_proper op went Any b p q = (p, q)
between_proper op went (Num s) Any p q = (p, q)
between_proper op went (Num s) (Ptr r t) p q = (p, q)
between_proper op went (Ptr r s) Any p q = (p, q)
between_proper op went (Ptr r s) (Num t) p q = (p, q)
between_proper op went (Ptr r s) (Opt o t) p q = (p, q)
between_proper op went (Opt r s) Any p q = (p, q)
between_proper op went (Opt r s) (Ptr o t) p q = (p, q)
between_proper op went (Opt r s) (Opt o t) p q = (p, q)

pub narrow_proper : NarrowIsProper
unfolding narrow
narrow_proper insn went a b p q = by (insn.rs1 == insn.rs2)
  where
    by : (c : Bool) → AreProper (if c then Some (a, b) else narrow_between insn.op went a b)
    by true = (p, q)
    by false = between_proper insn.op went a b p q
