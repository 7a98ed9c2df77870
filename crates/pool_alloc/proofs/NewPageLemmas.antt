-- New pages of the pool.
use Rattle.std.proofs.Common.{◌≡◌, ◌≢◌, ℕ, ◌+◌, ◌*◌, ◌/◌, ◌%◌, ◌^◌, ◌<◌, ◌≤◌, List, [], ◌∷◌, ◌++◌, length, refl, sym, ap, ◌∙◌, arith, Bool, true, false, inl, inr, subst, max}
use Rattle.std.specs.Prelude.{◌==◌, Result, Ok, if◌then◌else◌}
use Rattle.std.proofs.lemmas.Bool.Decides.{nat_tests}
use Rattle.page_alloc.specs.declared.page.Owner.TheVariants.{Pool}
use Rattle.page_alloc.specs.declared.page.PageRefusal.{PageRefusal}
use Rattle.page_alloc.specs.Pages.{PageList, Whole, changed}
use Rattle.page_alloc.specs.Calls.{owns, allocation, after_allocation}
use Rattle.page_alloc.specs.Laws.{IsGiven, GivenAreOwned, OwnedStay}
use Rattle.page_alloc.specs.Laws.PageCall.{Allocate}
use Rattle.pool_alloc.specs.Blocks.{rounded, is_large, pages_for}
use Rattle.pool_alloc.specs.Pool.{BlockPage, pages_of, AreBlocks, IsPage, Apart, ApartFrom, IsPool, Together}
use Rattle.pool_alloc.specs.Calls.{span_at, BlockInRam}
use Rattle.pool_alloc.proofs.BlockLemmas.{some_pages}
use Rattle.pool_alloc.proofs.TogetherLemmas.{stays_together}

-- sizes
pub rounded_some : (size : ℕ) → 0 < rounded size
rounded_some size = by (size == 0) refl
  where
    by : (b : Bool) → (size == 0) ≡ b → 0 < (if b then 8 else (size + 7) / 8 * 8)
    by true e = omega arith
    by false e = let some : size ≢ 0 = grind (arith, nat_tests) in omega (arith, some)

pub rounded_by_eight : (size : ℕ) → rounded size % 8 ≡ 0
rounded_by_eight size = by (size == 0)
  where
    by : (b : Bool) → (if b then 8 else (size + 7) / 8 * 8) % 8 ≡ 0
    by true = omega arith
    by false = omega arith

pub rounded_small : (size : ℕ) → size ≤ 2048 → rounded size ≤ 2048
rounded_small size h = by (size == 0)
  where
    by : (b : Bool) → (if b then 8 else (size + 7) / 8 * 8) ≤ 2048
    by true = omega arith
    by false = omega arith

pub rounded_large : (size : ℕ) → 2048 < size → 2048 < rounded size
rounded_large size h = by (size == 0) refl
  where
    by : (b : Bool) → (size == 0) ≡ b → 2048 < (if b then 8 else (size + 7) / 8 * 8)
    by true e = let none : size ≡ 0 = grind (arith, nat_tests) in absurd (omega arith)
    by false e = omega arith

pub rounded_pages : (size : ℕ) → pages_for (max size 1) ≡ pages_for (rounded size)
rounded_pages size = by (size == 0) refl
  where
    by : (b : Bool) → (size == 0) ≡ b → (max size 1 + 4095) / 4096 ≡ ((if b then 8 else (size + 7) / 8 * 8) + 4095) / 4096
    by true e = let none : size ≡ 0 = grind (arith, nat_tests) in omega arith
    by false e = let some : size ≢ 0 = grind (arith, nat_tests) in omega (arith, some)

-- a new page
abbrev pub new_page : ℕ → ℕ → ℕ → BlockPage
new_page start t size = record { start = start; memory_type = t; blocks = record { offset = 0; size = size } ∷ [] }

new_blocks : (size : ℕ) → 0 < size → size % 8 ≡ 0 → (b : Bool) → is_large size ≡ b → AreBlocks (record { offset = 0; size = size } ∷ [])
new_blocks size some by_eight true large = inl (record { large = large; first = refl; rounded = by_eight; alone = refl })
new_blocks size some by_eight false small = inr (record {
  shared = rw small refl;
  order = (let l : size ≤ 2048 = grind (arith, nat_tests) in (omega arith, some, omega arith, by_eight, omega arith, tt));
})

new_is_page : (m : PageList) (start t size : ℕ) → Whole m → 0 < size → size % 8 ≡ 0 → IsGiven m start (pages_for size) → IsPage (new_page start t size)
new_is_page m start t size whole some by_eight g = record {
  blocks = new_blocks size some by_eight (is_large size) refl;
  on_page = g.on_page;
  end = (let high = g.high in let end = whole.ram.end in omega (arith, high, end));
}

-- an old page and a new one
old_new : (m : PageList) (p : BlockPage) (start t size : ℕ) → IsPage p → owns m Pool p.start (pages_of p.blocks) ≡ true → IsGiven m start (pages_for size) → Apart p (new_page start t size)
old_new m p start t size is owned g = g.new Pool p.start (pages_of p.blocks) refl is.on_page (some_pages p.blocks is.blocks) owned

from_add : (p q : BlockPage) (pages : List BlockPage) → ApartFrom p pages → Apart p q → ApartFrom p (pages ++ q ∷ [])
from_add p q [] all apart = (apart, tt)
from_add p q (r ∷ rs) all apart = (all.0, from_add p q rs all.1 apart)

new_pages : (s pool r zs : List BlockPage) (x : BlockPage) (start t size n : ℕ) → s ≡ pool → r ≡ s → zs ≡ r ++ x ∷ [] → x ≡ new_page start t n → n ≡ rounded size → zs ≡ pool ++ new_page start t (rounded size) ∷ []
new_pages s pool r zs x start t size n e f g h k =
    g ∙ ap (λ ps. ps ++ x ∷ []) (f ∙ e) ∙ ap (λ q. pool ++ q ∷ []) (h ∙ ap (λ c. new_page start t c) k)

pub add_pool : (pool : List BlockPage) (m : PageList) (start t size : ℕ) → Whole m → 0 < size → size % 8 ≡ 0 → IsGiven m start (pages_for size) → IsPool pool → Together pool m → IsPool (pool ++ new_page start t size ∷ [])
add_pool [] m start t size whole some by_eight g all together = (new_is_page m start t size whole some by_eight g, tt, tt)
add_pool (p ∷ ps) m start t size whole some by_eight g all together =
    (all.0, from_add p (new_page start t size) ps all.1 (old_new m p start t size all.0 together.0 g), add_pool ps m start t size whole some by_eight g all.2 together.1)

together_add : (pool : List BlockPage) (m : PageList) (p : BlockPage) → Together pool m → owns m Pool p.start (pages_of p.blocks) ≡ true → Together (pool ++ p ∷ []) m
together_add [] m p together owned = (owned, tt)
together_add (q ∷ qs) m p together owned = (together.0, together_add qs m p together.1 owned)

pub add_count : (size k n : ℕ) → k ≡ max size 1 → n ≡ pages_for k → n ≡ pages_for (rounded size)
add_count size k n e f = f ∙ ap pages_for e ∙ rounded_pages size

-- the pages for a size, and for the rounded one
pub span_is : (m : PageList) (t size k n : ℕ) (r : Result ℕ PageRefusal) → k ≡ max size 1 → n ≡ pages_for k → r ≡ allocation m 0 t n 0 → span_at n r ≡ span_at (pages_for (rounded size)) (allocation m 0 t (pages_for (rounded size)) 0)
span_is m t size k n r e f h = ap (λ q. span_at n q) h ∙ ap (λ c. span_at c (allocation m 0 t c 0)) (add_count size k n e f)

covers : (n start end : ℕ) → start + 4096 * ((n + 4095) / 4096) ≤ end → start + n ≤ end
covers n start end h = omega arith

-- what the code takes
module _ (given : GivenAreOwned) (m : PageList) (t size k n start : ℕ) (whole : Whole m) (e : k ≡ max size 1) (f : n ≡ pages_for k) (h : Ok start ≡ allocation m 0 t n 0) where
  same : n ≡ pages_for (rounded size)
  same = add_count size k n e f

  pub add_given : IsGiven m start (pages_for (rounded size))
  add_given = subst (λ (c : ℕ). IsGiven m start c) same (given m Pool 0 t n 0 start whole (sym h)).0

  pub add_few : size ≤ 2 ^ 63
  add_few =
      let high = add_given.high in
      let end = whole.ram.end in
      let pages : pages_for (max size 1) ≡ pages_for (rounded size) = rounded_pages size in
      let few : pages_for (max size 1) ≤ 2 ^ 47 = omega (arith, high, end, pages) in
      omega (arith, few)

  pub added_in : BlockInRam start (rounded size) m
  added_in = let g = add_given in (g.low, covers (rounded size) start (m.base + 4096 * length m.pages) g.high)

  -- the pool behind it
  pub added_pool : (s pool r zs : List BlockPage) (x : BlockPage) (c : ℕ) → s ≡ pool → r ≡ s → zs ≡ r ++ x ∷ [] → x ≡ new_page start t c → c ≡ rounded size → IsPool s → Together pool m → IsPool zs
  added_pool s pool r zs x c a b d g i all together =
      subst IsPool (sym (new_pages s pool r zs x start t size c a b d g i)) (add_pool pool m start t (rounded size) whole (rounded_some size) (rounded_by_eight size) add_given (subst IsPool a all) together)

  pub added_together : OwnedStay → (s pool r zs : List BlockPage) (x : BlockPage) (m' : PageList) (c : ℕ) → s ≡ pool → r ≡ s → zs ≡ r ++ x ∷ [] → x ≡ new_page start t c → c ≡ rounded size
      → IsPool s → Together pool m → m' ≡ changed m start n (record { memory_type = t; owner = Pool }) → Together zs m'
  added_together stay s pool r zs x m' c a b d g i all together changes =
      let behind : Together pool (after_allocation (allocation m 0 t n 0) m Pool t n) = stays_together stay pool m (Allocate Pool 0 t n 0) whole (subst IsPool a all) refl together in
      let behind' : Together pool m' = subst (λ w. Together pool w) (sym changes) (subst (λ r. Together pool (after_allocation r m Pool t n)) (sym h) behind) in
      let owned : owns m' Pool start (pages_for (rounded size)) ≡ true = ap (λ w. owns w Pool start (pages_for (rounded size))) changes ∙ ap (λ j. owns (changed m start n (record { memory_type = t; owner = Pool })) Pool start j) (sym same) ∙ (given m Pool 0 t n 0 start whole (sym h)).1 in
      subst (λ ps. Together ps m') (sym (new_pages s pool r zs x start t size c a b d g i)) (together_add pool m' (new_page start t (rounded size)) behind' owned)
