-- What the pool's calls leave of the pages of others.
use Rattle.std.proofs.Common.{◌≡◌, ℕ, Bool, true, false, List, [], ◌∷◌, ◌++◌, length, refl, ap, subst}
use Rattle.std.specs.Prelude.{Option, Some, None, Result, Ok, Err, if◌then◌else◌}
use Rattle.page_alloc.specs.declared.page.Owner.TheVariants.{Pool}
use Rattle.page_alloc.specs.declared.page.Page.{Page}
use Rattle.page_alloc.specs.declared.page.PageRefusal.{PageRefusal}
use Rattle.page_alloc.specs.Pages.{PageList, page_at, is_conventional}
use Rattle.page_alloc.specs.Calls.{may_be_given, allocation, after_allocation}
use Rattle.page_alloc.specs.Laws.{CallsLeaveOthers}
use Rattle.pool_alloc.specs.declared.refusal.PoolRefusal.{PoolRefusal}
use Rattle.pool_alloc.specs.declared.refusal.PoolRefusal.TheVariants as refusals
use Rattle.pool_alloc.specs.Blocks.{rounded, pages_for}
use Rattle.pool_alloc.specs.Pool.{BlockPage, Placed}
use Rattle.pool_alloc.specs.Calls.{Done, on_pages, on_page, gap_for, pool_allocation}
use Rattle.runtime_whole.proofs.PageLemmas.{ok_same, changed_base, changed_long, given_stay, given_fits}

-- the map is of the same RAM, and no page that isn't conventional has changed
pub record Took (m n : PageList) : Type 0 where
  pub base : n.base ≡ m.base
  pub long : length n.pages ≡ length m.pages
  pub others : (at : ℕ) (page : Page) → page_at m at ≡ Some page → is_conventional page ≡ false → page_at n at ≡ Some page

new_pages : List BlockPage → PageList → ℕ → ℕ → ℕ → Done
new_pages pool m t size start = record {
  answer = start;
  pool = pool ++ record { start = start; memory_type = t; blocks = record { offset = 0; size = size } ∷ [] } ∷ [];
  pages = after_allocation (Ok start) m Pool t (pages_for size);
}

took_given : CallsLeaveOthers → (m : PageList) (t count start : ℕ) → allocation m 0 t count 0 ≡ Ok start → Took m (after_allocation (Ok start) m Pool t count)
took_given law m t count start e = record {
  base = changed_base m start count (record { memory_type = t; owner = Pool });
  long = changed_long m start count (record { memory_type = t; owner = Pool }) (given_fits m 0 t count 0 start e).inside;
  others = λ at page p free. given_stay law m Pool 0 t count 0 start at page e p free;
}

took_pages : CallsLeaveOthers → (pool : List BlockPage) (m : PageList) (t size : ℕ) (done : Done) (r : Result ℕ PageRefusal) → allocation m 0 t (pages_for size) 0 ≡ r → on_pages pool m t size r ≡ Ok done → Took m done.pages
unfolding new_pages
took_pages law pool m t size done (Ok start) e h =
    let is : new_pages pool m t size start ≡ done = ok_same PoolRefusal (new_pages pool m t size start) done h in
    subst (λ (d : Done). Took m d.pages) is (took_given law m t (pages_for size) start e)
took_pages law pool m t size done (Err refusal) e h = let bad : ⊥ = cc in absurd bad

took_page : CallsLeaveOthers → (pool : List BlockPage) (m : PageList) (t size : ℕ) (done : Done) (gap : Option Placed) → on_page pool m t size gap ≡ Ok done → Took m done.pages
took_page law pool m t size done (Some placed) h =
    let is : m ≡ done.pages = ap pages_in h in
    subst (Took m) is (record { base = refl; long = refl; others = λ at page p free. p })
  where
    pages_in : Result Done PoolRefusal → PageList
    pages_in (Ok d) = d.pages
    pages_in (Err refusal) = m
took_page law pool m t size done None h = took_pages law pool m t size done (allocation m 0 t (pages_for size) 0) refl h

-- AllocatePool
pub took : CallsLeaveOthers → (pool : List BlockPage) (m : PageList) (t size : ℕ) (done : Done) → pool_allocation pool m t size ≡ Ok done → Took m done.pages
unfolding pool_allocation
took law pool m t size done e = by (may_be_given t) e
  where
    by : (b : Bool) → (if b then on_page pool m t (rounded size) (gap_for pool t (rounded size)) else Err refusals.Invalid) ≡ Ok done → Took m done.pages
    by true h = took_page law pool m t (rounded size) done (gap_for pool t (rounded size)) h
    by false h = let bad : ⊥ = cc in absurd bad
