-- What branches leave of spans.
use Rattle.std.proofs.Common.{◌≡◌, ℕ, zero, suc, ◌≤◌, ◌<◌, ◌+◌, ◌-◌, ◌%◌, ◌*◌, ◌^◌, arith, Bool, true, false, refl, sym, ◌∙◌, ap, subst, Option, Some, None}
use Rattle.std.specs.Prelude.{◌==◌, ◌&&◌, ◌≢◌, not, if◌then◌else◌, nat_lt, int_lt}
use Rattle.std.specs.Int.{w64}
use Rattle.std.proofs.lemmas.Int.{to_z_pos}
use Rattle.std.proofs.lemmas.Bool.Decides.{nat_tests}
use Rattle.std.proofs.Math.Nat.{add-mul-mod_self_left, mod-eq_of_lt, mul_comm}
use Rattle.rv_decode.specs.declared.insn.Op.{Op}
use Rattle.rv_decode.specs.declared.insn.Op.TheVariants as ops
use Rattle.rv_step.specs.Values.{signed}
use Rattle.prov_types.specs.declared.kinds.Span.{Span}
use Rattle.prov_types.specs.declared.kinds.Kind.TheVariants.{Num, Ptr}
use Rattle.prov_types.proofs.SpanLemmas.{ends, spans}
use Rattle.prov_types.proofs.BoundLemmas.{caps, floors}
use Rattle.prov_types.specs.Asked.{BothHold}
use Rattle.rv_step.specs.Asks.{compares}
use Rattle.prov_types.specs.Kinds.{HoldsPtr, Regions}
use Rattle.prov_types.specs.Narrow.{above_some, below_some, both_low, capped, equal_some, floored, narrow_numbers, narrow_pointers, only, pair_of, said_by, unlike_some, without_end}
use Rattle.prov_types.specs.Spans.{InSpan, IsProper, spanning}
use Rattle.prov_types.specs.declared.edges.Said.{Said}
use Rattle.prov_types.specs.declared.edges.Said.TheVariants.{Below, Equal, NotBelow, Nothing, Unlike}

-- a value in what is left
pub record Left (o : Option Span) (v : ℕ) : Type 0 where
  pub span : Span
  pub is : o ≡ Some span
  pub within : InSpan span v

below_left : (s t : Span) (v w : ℕ) → IsProper s → InSpan s v → InSpan t w → v < w → Left (below_some s t) v
unfolding below_some
below_left s t v w proper p q h = by (t.hi == 0) refl
  where
    by : (c : Bool) → (t.hi == 0) ≡ c → Left (if c then None else capped s (t.hi - 1)) v
    by true e = let z : t.hi ≡ 0 = grind (arith, nat_tests) in let k = ends t w q in let top : w ≤ t.hi = k.1 in absurd (omega (arith, z, top, h))
    by false e = let k = ends t w q in let top : w ≤ t.hi = k.1 in let c = caps s (t.hi - 1) v proper p (omega (arith, top, h)) in record { span = c.0; is = c.1; within = c.2 }

above_left : (s t : Span) (v w : ℕ) → IsProper t → InSpan s v → InSpan t w → v < w → Left (above_some t s) w
unfolding above_some
above_left s t v w proper p q h = let k = ends s v p in let low : s.lo ≤ v = k.0 in let c = floors t (s.lo + 1) w proper q (omega (arith, low, h)) in record { span = c.0; is = c.1; within = c.2 }

floor_left : (s t : Span) (v w : ℕ) → IsProper s → InSpan s v → InSpan t w → w ≤ v → Left (floored s t.lo) v
floor_left s t v w proper p q h = let k = ends t w q in let low : t.lo ≤ w = k.0 in let c = floors s t.lo v proper p (omega (arith, low, h)) in record { span = c.0; is = c.1; within = c.2 }

cap_left : (s t : Span) (v w : ℕ) → IsProper t → InSpan s v → InSpan t w → w ≤ v → Left (capped t s.hi) w
cap_left s t v w proper p q h = let k = ends s v p in let top : v ≤ s.hi = k.1 in let c = caps t s.hi w proper q (omega (arith, top, h)) in record { span = c.0; is = c.1; within = c.2 }

one_value : (t : Span) (w : ℕ) → InSpan t w → (t.lo == t.hi) ≡ true → w ≡ t.lo
one_value t w q e = let k : t.lo ≡ t.hi = grind (arith, nat_tests) in let a = q.from_lo in let b = q.to_hi in omega (arith, a, b, k)

only_left : (s : Span) (v : ℕ) → IsProper s → InSpan s v → Left (only s v) v
unfolding only
only_left s v proper p =
    let a = p.from_lo in
    let k = ends s v p in
    let low : nat_lt v s.lo ≡ false = let z : s.lo ≤ v = k.0 in grind (arith, nat_tests, z) in
    let high : nat_lt s.hi v ≡ false = let z : v ≤ s.hi = k.1 in grind (arith, nat_tests, z) in
    let gap : v - s.lo ≡ 0 + s.by * p.up = omega (arith, a, mul_comm s.by p.up) in
    let rest : (v - s.lo) % s.by ≡ 0 = ap (λ n. n % s.by) gap ∙ add-mul-mod_self_left 0 s.by p.up ∙ zero_mod s.by in
    let step : ((v - s.lo) % s.by == 0) ≡ true = grind (arith, nat_tests, rest) in
    rw (low, high, step) (record { span = spanning v v 0; is = refl; within = record { up = 0; down = 0; from_lo = omega arith; to_hi = omega arith } })
  where
    zero_mod : (n : ℕ) → 0 % n ≡ 0
    zero_mod zero = refl
    zero_mod (suc n) = let low : 0 < suc n = omega arith in mod-eq_of_lt low

equal_left : (s t : Span) (v w : ℕ) → IsProper s → InSpan s v → InSpan t w → v ≡ w → Left (equal_some s t) v
unfolding equal_some
equal_left s t v w proper p q h = by (t.lo == t.hi) refl
  where
    by : (c : Bool) → (t.lo == t.hi) ≡ c → Left (if c then only s t.lo else Some s) v
    by true e = let is : v ≡ t.lo = h ∙ one_value t w q e in subst (λ z. Left (only s z) v) is (only_left s v proper p)
    by false e = record { span = s; is = refl; within = p }

-- one step further from an end
pub without_left : (s : Span) (v x : ℕ) → IsProper s → InSpan s v → v ≢ x → Left (without_end s x) v
unfolding without_end
without_left s v x proper p h = by (s.lo == s.hi) (s.lo == x) (s.hi == x) (s.lo + s.by == s.hi) refl refl refl refl
  where
    a : v ≡ s.lo + p.up * s.by
    a = p.from_lo

    b : v + p.down * s.by ≡ s.hi
    b = p.to_hi

    step : (n : ℕ) → suc n * s.by ≡ n * s.by + s.by
    step n = omega arith

    -- the step of what is left: one value has alone
    left_in : (lo hi : ℕ) (up down : ℕ) → v ≡ lo + up * s.by → v + down * s.by ≡ hi → (c : Bool) → (c ≡ true → (up * s.by ≡ 0) × (down * s.by ≡ 0)) → InSpan (spanning lo hi (if c then 0 else s.by)) v
    left_in lo hi up down e f true alone = let z = alone refl in spans lo hi 0 v (record { up = 0; down = 0; from_lo = omega (arith, e, z.0); to_hi = omega (arith, f, z.1) })
    left_in lo hi up down e f false alone = spans lo hi s.by v (record { up = up; down = down; from_lo = e; to_hi = f })

    low_side : (up : ℕ) → p.up ≡ up → (c : Bool) → (s.lo + s.by == s.hi) ≡ c → s.lo ≡ x → InSpan (spanning (s.lo + s.by) s.hi (if c then 0 else s.by)) v
    low_side zero e c f k = absurd (h (a ∙ ap (λ n. s.lo + n * s.by) e ∙ omega (arith, k)))
    low_side (suc n) e c f k =
        let up : p.up * s.by ≡ n * s.by + s.by = ap (λ m. m * s.by) e ∙ step n in
        left_in (s.lo + s.by) s.hi n p.down (omega (arith, a, up)) b c (λ g. let z : s.lo + s.by ≡ s.hi = grind (arith, nat_tests, f, g) in (omega (arith, a, b, up, z), omega (arith, a, b, up, z)))

    high_side : (down : ℕ) → p.down ≡ down → (c : Bool) → (s.lo + s.by == s.hi) ≡ c → s.hi ≡ x → InSpan (spanning s.lo (s.hi - s.by) (if c then 0 else s.by)) v
    high_side zero e c f k = absurd (h (omega (arith, b, k, ap (λ n. n * s.by) e)))
    high_side (suc n) e c f k =
        let down : p.down * s.by ≡ n * s.by + s.by = ap (λ m. m * s.by) e ∙ step n in
        left_in s.lo (s.hi - s.by) p.up n a (omega (arith, b, down)) c (λ g. let z : s.lo + s.by ≡ s.hi = grind (arith, nat_tests, f, g) in (omega (arith, a, b, down, z), omega (arith, a, b, down, z)))

    by : (l m n c : Bool) → (s.lo == s.hi) ≡ l → (s.lo == x) ≡ m → (s.hi == x) ≡ n → (s.lo + s.by == s.hi) ≡ c
        → Left (if l then (if m then None else Some s) else (if m then Some (spanning (s.lo + s.by) s.hi (if c then 0 else s.by)) else (if n then Some (spanning s.lo (s.hi - s.by) (if c then 0 else s.by)) else Some s))) v
    by true true n c e f i k = absurd (h (let z : s.lo ≡ s.hi = grind (arith, nat_tests) in let y : s.lo ≡ x = grind (arith, nat_tests) in omega (arith, a, b, z, y)))
    by true false n c e f i k = record { span = s; is = refl; within = p }
    by false true n c e f i k = record { span = _; is = refl; within = low_side p.up refl c k (grind (arith, nat_tests)) }
    by false false true c e f i k = record { span = _; is = refl; within = high_side p.down refl c k (grind (arith, nat_tests)) }
    by false false false c e f i k = record { span = s; is = refl; within = p }

unlike_left : (s t : Span) (v w : ℕ) → IsProper s → InSpan s v → InSpan t w → v ≢ w → Left (unlike_some s t) v
unfolding unlike_some
unlike_left s t v w proper p q h = by (t.lo == t.hi) refl
  where
    by : (c : Bool) → (t.lo == t.hi) ≡ c → Left (if c then without_end s t.lo else Some s) v
    by true e = without_left s v t.lo proper p (λ k. h (k ∙ sym (one_value t w q e)))
    by false e = record { span = s; is = refl; within = p }

-- what an edge says is so
abbrev pub IsSaid : Said → (v w : ℕ) → Type 0
IsSaid Below v w = v < w
IsSaid NotBelow v w = w ≤ v
IsSaid Equal v w = v ≡ w
IsSaid Unlike v w = v ≢ w
IsSaid Nothing v w = Unit {0}

equality : (v w : ℕ) (c : Bool) → (v == w) ≡ c → IsSaid (if c then Equal else Unlike) v w
equality v w true e = grind (arith, nat_tests)
equality v w false e = λ h. absurd (grind (arith, nat_tests))

order : (v w : ℕ) (c : Bool) → nat_lt v w ≡ c → IsSaid (if c then Below else NotBelow) v w
order v w true e = grind (arith, nat_tests)
order v w false e = grind (arith, nat_tests)

twice : (c : Bool) → not (not c) ≡ c
twice true = refl
twice false = refl

-- signed and unsigned order agree on low numbers
signed_order : (v w : ℕ) → v < 2 ^ 63 → w < 2 ^ 63 → int_lt (signed v) (signed w) ≡ nat_lt v w
signed_order v w h k = rw (to_z_pos w64 v h, to_z_pos w64 w k) refl

low_order : (s t : Span) (v w : ℕ) → InSpan s v → InSpan t w → (f : Bool → Said) → ((c : Bool) → nat_lt v w ≡ c → IsSaid (f c) v w) → (c : Bool) → both_low s t ≡ c → IsSaid (if c then f (int_lt (signed v) (signed w)) else Nothing) v w
low_order s t v w p q f each false e = tt
low_order s t v w p q f each true e = by (nat_lt s.hi (2 ^ 63)) (nat_lt t.hi (2 ^ 63)) refl refl e
  where
    by : (c d : Bool) → nat_lt s.hi (2 ^ 63) ≡ c → nat_lt t.hi (2 ^ 63) ≡ d → (c && d) ≡ true → IsSaid (f (int_lt (signed v) (signed w))) v w
    by true true k l m =
        let a = ends s v p in let b = ends t w q in
        let top : v ≤ s.hi = a.1 in let also : w ≤ t.hi = b.1 in
        let x : s.hi < 2 ^ 63 = grind (arith, nat_tests) in let y : t.hi < 2 ^ 63 = grind (arith, nat_tests) in
        rw (signed_order v w (omega (arith, top, x)) (omega (arith, also, y))) (each (nat_lt v w) refl)
    by true false k l m = absurd cc
    by false d k l m = absurd cc

pub said : (op : Op) (s t : Span) (v w : ℕ) → InSpan s v → InSpan t w → IsSaid (said_by op (compares op v w) s t) v w
unfolding said_by
said ops.Beq s t v w p q = equality v w (v == w) refl
said ops.Bne s t v w p q = rw (twice (v == w)) (equality v w (v == w) refl)
said ops.Bltu s t v w p q = order v w (nat_lt v w) refl
said ops.Bgeu s t v w p q = rw (twice (nat_lt v w)) (order v w (nat_lt v w) refl)
said ops.Blt s t v w p q = low_order s t v w p q (λ c. if c then Below else NotBelow) (λ c e. order v w c e) (both_low s t) refl
said ops.Bge s t v w p q = rw (twice (int_lt (signed v) (signed w))) (low_order s t v w p q (λ c. if c then Below else NotBelow) (λ c e. order v w c e) (both_low s t) refl)
said _ s t v w p q = tt

module _ (g : Regions) where
  number_pair : (o u : Option Span) (v w : ℕ) → Left o v → Left u w → BothHold g v v w w (pair_of Num Num o u)
  number_pair o u v w l m = rw (l.is, m.is) (record { same = refl; within = l.within }, record { same = refl; within = m.within })

  pub numbers_narrowed : (x : Said) (s t : Span) (v w : ℕ) → IsProper s → IsProper t → InSpan s v → InSpan t w → IsSaid x v w → BothHold g v v w w (narrow_numbers x s t)
  unfolding narrow_numbers
  numbers_narrowed Below s t v w a b p q h = number_pair _ _ v w (below_left s t v w a p q h) (above_left s t v w b p q h)
  numbers_narrowed NotBelow s t v w a b p q h = number_pair _ _ v w (floor_left s t v w a p q h) (cap_left s t v w b p q h)
  numbers_narrowed Equal s t v w a b p q h = number_pair _ _ v w (equal_left s t v w a p q h) (equal_left t s w v b q p (sym h))
  numbers_narrowed Unlike s t v w a b p q h = number_pair _ _ v w (unlike_left s t v w a p q h) (unlike_left t s w v b q p (λ k. h (sym k)))
  numbers_narrowed Nothing s t v w a b p q h = (record { same = refl; within = p }, record { same = refl; within = q })

  pub pointers_narrowed : (x : Said) (r q : ℕ) (s t : Span) (v v' w w' : ℕ) (m : HoldsPtr g r s v v') (n : HoldsPtr g q t w w') → IsProper s → IsProper t → IsSaid x m.offset n.offset → BothHold g v v' w w' (narrow_pointers x r q s t)
  unfolding narrow_pointers
  pointers_narrowed Unlike r q s t v v' w w' m n a b h =
      let l = unlike_left s t m.offset n.offset a m.within n.within h in
      let k = unlike_left t s n.offset m.offset b n.within m.within (λ z. h (sym z)) in
      by l k (r == q)
    where
      by : Left (unlike_some s t) m.offset → Left (unlike_some t s) n.offset → (c : Bool)
          → BothHold g v v' w w' (if c then pair_of (Ptr r) (Ptr q) (unlike_some s t) (unlike_some t s) else Some (Ptr r s, Ptr q t))
      by l k true = rw (l.is, k.is) (record { offset = m.offset; old = m.old; new = m.new; within = l.within; inside = m.inside }, record { offset = n.offset; old = n.old; new = n.new; within = k.within; inside = n.inside })
      by l k false = (m, n)
  pointers_narrowed _ r q s t v v' w w' m n a b h = (m, n)
