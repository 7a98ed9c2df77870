-- The lowest gap between blocks in order.
use Rattle.std.proofs.Common.{◌≡◌, ℕ, zero, suc, ◌+◌, ◌-◌, ◌<◌, ◌≤◌, List, [], ◌∷◌, length, drop, get_or, refl, ap, ◌∙◌, arith, Bool, true, false, ◌⊎◌, inl, inr}
use Rattle.std.specs.Prelude.{◌&&◌, nat_le, Option, Some, None, if◌then◌else◌}
use Rattle.std.specs.List.{list_all}
use Rattle.std.specs.Option.{option_or}
use Rattle.std.proofs.lemmas.Bool.Decides.{nat_tests, leb_tells}
use Rattle.std.proofs.lemmas.List.{at_drop_more, at_drop_all}
use Rattle.pool_alloc.specs.declared.block.Block.{Block}
use Rattle.pool_alloc.specs.Blocks.{is_apart, has_room, least, lowest}
use Rattle.pool_alloc.specs.Pool.{InOrder, AreShared}

pub tells : (b : Bool) → (b ≡ true) ⊎ (b ≡ false)
tells true = inl refl
tells false = inr refl

pub and_true : (a b : Bool) → (a && b) ≡ true → (a ≡ true) × (b ≡ true)
and_true true b h = (refl, h)
and_true false b h = absurd (cc)

-- the least number with a property
abbrev pub IsLeast : (ℕ → Type 0) → Option ℕ → Type 0
IsLeast P None = (n : ℕ) → P n → ⊥
IsLeast P (Some first) = P first × ((n : ℕ) → P n → first ≤ n)

one_least : (P : ℕ → Type 0) (a b : Option ℕ) → IsLeast P a → IsLeast P b → a ≡ b
one_least P None None h k = refl
one_least P None (Some b) h k = absurd (h b k.0)
one_least P (Some a) None h k = absurd (k a h.0)
one_least P (Some a) (Some b) h k = ap Some (let l = h.1 b k.0 in let m = k.1 a h.0 in omega arith)

least_of_same : (P Q : ℕ → Type 0) (o : Option ℕ) → ((n : ℕ) → P n → Q n) → ((n : ℕ) → Q n → P n) → IsLeast P o → IsLeast Q o
least_of_same P Q None f g h = λ n q. h n (g n q)
least_of_same P Q (Some first) f g h = (f first h.0, λ n q. h.1 n (g n q))

-- the number that `least` finds
below : (test : ℕ → Bool) (bound : ℕ) → IsLeast (λ n. (n < bound) × (test n ≡ true)) (least test bound)
unfolding least
below test zero = λ n h. let l = h.0 in absurd (omega arith)
below test (suc bound) = last (least test bound) (test bound) refl (below test bound)
  where
    last : (o : Option ℕ) (b : Bool) → test bound ≡ b → IsLeast (λ n. (n < bound) × (test n ≡ true)) o
        → IsLeast (λ n. (n < suc bound) × (test n ≡ true)) (option_or o (if b then Some bound else None))
    last None true e h = ((omega arith, e), λ n k. let under = k.0 in elim (leb_tells bound n) [ inl p ↦ p.1 | inr p ↦ absurd (h n (p.1, k.1)) ])
    last None false e h = λ n k. let under = k.0 in elim (leb_tells bound n) [
      | inl p ↦ (let over = p.1 in let same : n ≡ bound = omega arith in let clash : test bound ≡ true = rw (← same) k.1 in absurd (cc))
      | inr p ↦ h n (p.1, k.1)
    ]
    last (Some first) b e h = (
      let under = h.0.0 in (omega arith, h.0.1),
      λ n k. let under = k.0 in elim (leb_tells bound n) [
        | inl p ↦ (let over = p.1 in let small = h.0.0 in omega arith)
        | inr p ↦ h.1 n (p.1, k.1)
      ],
    )

-- no block has any of so many bytes from n on
abbrev pub Free : List Block → ℕ → ℕ → Type 0
Free [] size n = Unit {0}
Free (b ∷ bs) size n = ((n + size ≤ b.offset) ⊎ (b.offset + b.size ≤ n)) × Free bs size n

pub record Gap (blocks : List Block) (size low n : ℕ) : Type 0 where
  pub ends : n + size ≤ 4096
  pub from : low ≤ n
  pub free : Free blocks size n

apart_tells : (b : Block) (n size : ℕ) → is_apart b n size ≡ true → (n + size ≤ b.offset) ⊎ (b.offset + b.size ≤ n)
apart_tells b n size h = elim (leb_tells (n + size) b.offset) [
  | inl p ↦ inl p.1
  | inr p ↦ inr (let over = p.1 in grind (arith, nat_tests))
]

apart_is : (b : Block) (n size : ℕ) → (n + size ≤ b.offset) ⊎ (b.offset + b.size ≤ n) → is_apart b n size ≡ true
apart_is b n size (inl h) = grind (arith, nat_tests)
apart_is b n size (inr h) = grind (arith, nat_tests)

pub free_tells : (blocks : List Block) (size n : ℕ) → list_all (λ b. is_apart b n size) blocks ≡ true → Free blocks size n
free_tells [] size n h = tt
free_tells (b ∷ bs) size n h = let p = and_true (is_apart b n size) (list_all (λ c. is_apart c n size) bs) h in (apart_tells b n size p.0, free_tells bs size n p.1)

free_is : (blocks : List Block) (size n : ℕ) → Free blocks size n → list_all (λ b. is_apart b n size) blocks ≡ true
free_is [] size n h = refl
free_is (b ∷ bs) size n h = rw (apart_is b n size h.0) (free_is bs size n h.1)

pub room_tells : (blocks : List Block) (size n : ℕ) → has_room blocks size n ≡ true → Gap blocks size 0 n
room_tells blocks size n h =
    let p = and_true (nat_le (n + size) 4096) (list_all (λ b. is_apart b n size) blocks) h in
    let q : nat_le (n + size) 4096 ≡ true = p.0 in
    record { ends = grind (arith, nat_tests); from = omega arith; free = free_tells blocks size n p.1 }

pub room_is : (blocks : List Block) (size n : ℕ) → Gap blocks size 0 n → has_room blocks size n ≡ true
room_is blocks size n g = let e = g.ends in let q : nat_le (n + size) 4096 ≡ true = grind (arith, nat_tests) in rw q (free_is blocks size n g.free)

pub lowest_is : (blocks : List Block) (size : ℕ) → 0 < size → IsLeast (Gap blocks size 0) (lowest blocks size)
unfolding lowest
lowest_is blocks size some = least_of_same (λ n. (n < 4096) × (has_room blocks size n ≡ true)) (Gap blocks size 0) _
    (λ n h. room_tells blocks size n h.1) (λ n g. (let e = g.ends in omega arith, room_is blocks size n g)) (below (has_room blocks size) 4096)

-- the gap that a walk over blocks in order finds
abbrev pub gap_from : ℕ → List Block → ℕ → Option ℕ
gap_from low [] size = if nat_le (low + size) 4096 then Some low else None
gap_from low (b ∷ bs) size = if nat_le (low + size) b.offset then Some low else gap_from (b.offset + b.size) bs size

-- blocks behind an offset have no byte before it
behind : (blocks : List Block) (low size n : ℕ) → InOrder low blocks → n + size ≤ low → Free blocks size n
behind [] low size n order h = tt
behind (b ∷ bs) low size n order h = let l = order.0 in let s = order.1 in (inl (omega arith), behind bs (b.offset + b.size) size n order.5 (omega arith))

walk : (blocks : List Block) (low size : ℕ) → 0 < size → InOrder low blocks → low ≤ 4096 → IsLeast (Gap blocks size low) (gap_from low blocks size)
walk [] low size some order short = last (nat_le (low + size) 4096) refl
  where
    last : (b : Bool) → nat_le (low + size) 4096 ≡ b → IsLeast (Gap [] size low) (if b then Some low else None)
    last true e = (record { ends = grind (arith, nat_tests); from = omega arith; free = tt }, λ n g. g.from)
    last false e = λ n g. let l = g.from in let f = g.ends in let over : 4096 < low + size = grind (arith, nat_tests) in omega arith
walk (b ∷ bs) low size some order short = next (nat_le (low + size) b.offset) refl (walk bs (b.offset + b.size) size some order.5 order.4)
  where
    next : (t : Bool) → nat_le (low + size) b.offset ≡ t → IsLeast (Gap bs size (b.offset + b.size)) (gap_from (b.offset + b.size) bs size)
        → IsLeast (Gap (b ∷ bs) size low) (if t then Some low else gap_from (b.offset + b.size) bs size)
    next true e h =
        let fits : low + size ≤ b.offset = grind (arith, nat_tests) in
        let end = order.4 in
        (record { ends = omega arith; from = omega arith; free = (inl fits, behind bs (b.offset + b.size) size low order.5 (omega arith)) }, λ n g. g.from)
    next false e h =
        let short' : b.offset < low + size = grind (arith, nat_tests) in
        let begins = order.0 in
        least_of_same (Gap bs size (b.offset + b.size)) (Gap (b ∷ bs) size low) _
        (λ n g. let l = g.from in record { ends = g.ends; from = omega arith; free = (inr l, g.free) })
        (λ n g. let l = g.from in record { ends = g.ends; from = elim (g.free.0) [ inl before ↦ absurd (omega arith) | inr after ↦ after ]; free = g.free.1 })
        h

pub gap_is_lowest : (blocks : List Block) (size : ℕ) → 0 < size → AreShared blocks → gap_from 0 blocks size ≡ lowest blocks size
gap_is_lowest blocks size some shared = one_least (Gap blocks size 0) (gap_from 0 blocks size) (lowest blocks size) (walk blocks 0 size some shared.order (omega arith)) (lowest_is blocks size some)

-- at a block of the walk, and behind the last
pub gap_here : (blocks : List Block) (i end size : ℕ) (d : Block) → i < length blocks → 0 < size → size ≤ (get_or blocks i d).offset - end → gap_from end (drop i blocks) size ≡ Some end
gap_here blocks i end size d h some room =
    let fits : nat_le (end + size) (get_or blocks i d).offset ≡ true = (let l : end + size ≤ (get_or blocks i d).offset = omega arith in grind (arith, nat_tests)) in
    at_drop_more (λ bs. gap_from end bs size) blocks i d h ∙ rw fits refl

pub gap_end : (blocks : List Block) (i end size : ℕ) → length blocks ≤ i → gap_from end (drop i blocks) size ≡ (if nat_le (end + size) 4096 then Some end else None)
gap_end blocks i end size h = at_drop_all (λ bs. gap_from end bs size) blocks i h

pub gap_last : (blocks : List Block) (i end size : ℕ) → length blocks ≤ i → 0 < size → size ≤ 4096 - end → gap_from end (drop i blocks) size ≡ Some end
gap_last blocks i end size h some room =
    let l : end + size ≤ 4096 = omega arith in
    let fits : nat_le (end + size) 4096 ≡ true = grind (arith, nat_tests) in
    gap_end blocks i end size h ∙ rw fits refl

pub gap_none : (blocks : List Block) (i end size : ℕ) → length blocks ≤ i → end ≤ 4096 → 4096 - end < size → gap_from end (drop i blocks) size ≡ None
gap_none blocks i end size h low room =
    let l : 4096 < end + size = omega arith in
    let fits : nat_le (end + size) 4096 ≡ false = grind (arith, nat_tests) in
    gap_end blocks i end size h ∙ rw fits refl
