-- Pages of the pool that are freed.
use Rattle.std.proofs.Common.{◌≡◌, ℕ, zero, suc, ◌<◌, List, [], ◌∷◌, length, get_or, refl, arith, true, inl, inr, subst}
use Rattle.std.specs.Prelude.{Option, Some, Ok, Err, remove}
use Rattle.page_alloc.specs.declared.page.Owner.TheVariants.{Pool}
use Rattle.page_alloc.specs.Pages.{PageList, Whole, changed, conventional}
use Rattle.page_alloc.specs.declared.page.PageRefusal.{PageRefusal}
use Rattle.page_alloc.specs.Calls.{owns, freeing}
use Rattle.page_alloc.specs.Laws.{OwnedAreFreed}
use Rattle.pool_alloc.specs.declared.span.PageSpan.{PageSpan}
use Rattle.pool_alloc.specs.Pool.{BlockPage, pages_of, span_of, IsPage, Apart, ApartFrom, IsPool, Together, CanFree}
use Rattle.pool_alloc.proofs.BlockLemmas.{some_pages}
use Rattle.pool_alloc.proofs.PoolLemmas.{page_of}

from_less : (p : BlockPage) (pages : List BlockPage) (i : ℕ) → ApartFrom p pages → ApartFrom p (remove pages i)
from_less p [] zero all = tt
from_less p [] (suc i) all = tt
from_less p (q ∷ qs) zero all = all.1
from_less p (q ∷ qs) (suc i) all = (all.0, from_less p qs i all.1)

pub pool_less : (pool : List BlockPage) (i : ℕ) → IsPool pool → IsPool (remove pool i)
pool_less [] zero all = tt
pool_less [] (suc i) all = tt
pool_less (p ∷ ps) zero all = all.2
pool_less (p ∷ ps) (suc i) all = (all.0, from_less p ps i all.1, pool_less ps i all.2)

from_there : (p : BlockPage) (pages : List BlockPage) (i : ℕ) (d : BlockPage) → i < length pages → ApartFrom p pages → Apart p (get_or pages i d)
from_there p [] i d h all = absurd (omega arith)
from_there p (q ∷ qs) zero d h all = all.0
from_there p (q ∷ qs) (suc i) d h all = from_there p qs i d (omega arith) all.1

turned : (p q : BlockPage) → Apart p q → Apart q p
turned p q (inl h) = inr h
turned p q (inr h) = inl h

pub own_there : (pool : List BlockPage) (m : PageList) (i : ℕ) (d : BlockPage) → i < length pool → Together pool m → owns m Pool (get_or pool i d).start (pages_of (get_or pool i d).blocks) ≡ true
own_there [] m i d h all = absurd (omega arith)
own_there (p ∷ ps) m zero d h all = all.0
own_there (p ∷ ps) m (suc i) d h all = own_there ps m i d (omega arith) all.1

-- a page stays the pool's where another one is freed
module _ (freed : OwnedAreFreed) (m : PageList) (p : BlockPage) (whole : Whole m) (is_p : IsPage p) (owned_p : owns m Pool p.start (pages_of p.blocks) ≡ true) where
  pub is_freed : freeing m Pool p.start (pages_of p.blocks) ≡ Ok tt
  is_freed = (freed m Pool p.start (pages_of p.blocks) whole is_p.on_page (some_pages p.blocks is_p.blocks) owned_p).0

  stays : (q : BlockPage) → IsPage q → Apart q p → owns m Pool q.start (pages_of q.blocks) ≡ true → owns (changed m p.start (pages_of p.blocks) conventional) Pool q.start (pages_of q.blocks) ≡ true
  stays q is apart owned = (freed m Pool p.start (pages_of p.blocks) whole is_p.on_page (some_pages p.blocks is_p.blocks) owned_p).1 Pool q.start (pages_of q.blocks) is.on_page apart owned

  all_stay : (qs : List BlockPage) → IsPool qs → ApartFrom p qs → Together qs m → Together qs (changed m p.start (pages_of p.blocks) conventional)
  all_stay [] all apart together = tt
  all_stay (q ∷ qs) all apart together = (stays q all.0 (turned p q apart.0) together.0, all_stay qs all.2 apart.1 together.1)

  pub rest_stays : (pool : List BlockPage) (i : ℕ) (d : BlockPage) → i < length pool → get_or pool i d ≡ p → IsPool pool → Together pool m → Together (remove pool i) (changed m p.start (pages_of p.blocks) conventional)
  rest_stays [] i d h e all together = absurd (omega arith)
  rest_stays (q ∷ qs) zero d h e all together = all_stay qs all.2 (subst (λ x. ApartFrom x qs) e all.1) together.1
  rest_stays (q ∷ qs) (suc i) d h e all together =
      (stays q all.0 (subst (λ x. Apart q x) e (from_there q qs i d (omega arith) all.1)) together.0, rest_stays qs i d (omega arith) e all.2 together.1)

pub can_free : OwnedAreFreed → (pool : List BlockPage) (m : PageList) (i : ℕ) (d : BlockPage) → Whole m → i < length pool → IsPool pool → Together pool m
    → CanFree (Some (span_of (get_or pool i d))) (remove pool i) m
can_free freed pool m i d whole h all together =
    let is = page_of pool i d all h in
    let owned = own_there pool m i d h together in
    (is_freed freed m (get_or pool i d) whole is owned, rest_stays freed m (get_or pool i d) whole is owned pool i d h refl all together)

-- what can be freed isn't refused
pub not_refused : (freed : Option PageSpan) (span : PageSpan) (new : List BlockPage) (m : PageList) (refusal : PageRefusal) → freed ≡ Some span → CanFree freed new m → Err refusal ≡ freeing m Pool span.start span.count → ⊥
not_refused freed span new m refusal e can answer =
    let there : CanFree (Some span) new m = subst (λ f. CanFree f new m) e can in
    let ok : freeing m Pool span.start span.count ≡ Ok tt = there.0 in
    cc
