-- Pages of others behind a call of the pool.
use Rattle.std.proofs.Common.{◌≡◌, ℕ, List, [], ◌∷◌, refl, ap, Bool, true, false, subst}
use Rattle.std.specs.List.{find}
use Rattle.std.specs.Prelude.{Option, Some, None, Result, Ok, Err, if◌then◌else◌}
use Rattle.page_alloc.specs.declared.page.Owner.TheVariants.{Pool}
use Rattle.page_alloc.specs.declared.page.Page.{Page}
use Rattle.page_alloc.specs.declared.page.PageRefusal.{PageRefusal}
use Rattle.page_alloc.specs.Pages.{PageList, Whole, page_at, is_conventional}
use Rattle.page_alloc.specs.Calls.{may_be_given, allocation, after_allocation, freeing, after_freeing, is_same_owner}
use Rattle.page_alloc.specs.Laws.{CallsLeaveOthers, OwnedAreFreed}
use Rattle.page_alloc.specs.Laws.PageCall.{Allocate, Release}
use Rattle.pool_alloc.specs.declared.block.Block.{Block}
use Rattle.pool_alloc.specs.declared.span.PageSpan.{PageSpan}
use Rattle.pool_alloc.specs.declared.refusal.PoolRefusal.{PoolRefusal}
use Rattle.pool_alloc.specs.declared.refusal.PoolRefusal.TheVariants.{Invalid}
use Rattle.pool_alloc.specs.Blocks.{rounded, pages_for}
use Rattle.pool_alloc.specs.Pool.{BlockPage, Placed, Taken, begins_at, without, left_of, take_on, take_first, IsPool, Together}
use Rattle.pool_alloc.specs.Calls.{Done, on_pages, on_page, gap_for, pool_allocation, on_taken, freed_by, with_freed, pool_freeing}
use Rattle.pool_alloc.specs.Laws.{PoolLeavesOthers}
use Rattle.pool_alloc.proofs.FreedLemmas.{is_freed}

pages_is : {a b : Done} (r : Result Done PoolRefusal) → r ≡ Ok a → r ≡ Ok b → a.pages ≡ b.pages
pages_is {a} {b} r e h = let same : a ≡ b = cc in ap (λ (d : Done). d.pages) same

-- the pages that FreePool frees are the pool's
abbrev pub Frees : PageList → Option PageSpan → Type 0
Frees m None = Unit {0}
Frees m (Some span) = freeing m Pool span.start span.count ≡ Ok tt

frees : OwnedAreFreed → (m : PageList) → Whole m → (pool : List BlockPage) (at : ℕ) → IsPool pool → Together pool m → Frees m (freed_by (take_first pool at))
unfolding take_first
frees law m whole [] at all together = tt
frees law m whole (p ∷ ps) at all together = by (find (begins_at p at) p.blocks) (take_first ps at) (frees law m whole ps at all.2 together.1)
  where
    last : (bs : List Block) (size : ℕ) → Frees m (freed_by (Some (left_of p (without p at) ps size bs)))
    last [] size = is_freed law m p whole all.0 together.0
    last (b ∷ bs) size = tt

    by : (o : Option Block) (rest : Option Taken) → Frees m (freed_by rest) → Frees m (freed_by (take_on p ps at o rest))
    by (Some b) rest h = last (without p at).blocks b.size
    by None None h = tt
    by None (Some taken) h = h

module _ (leave : CallsLeaveOthers) (pool : List BlockPage) (m : PageList) (at : ℕ) (page : Page) (done : Done) (there : page_at m at ≡ Some page) where
  allocated : (t size : ℕ) → pool_allocation pool m t size ≡ Ok done → is_conventional page ≡ false → page_at done.pages at ≡ Some page
  unfolding pool_allocation
  allocated t size e other = by (may_be_given t) e
    where
      on_new : (r : Result ℕ PageRefusal) → allocation m 0 t (pages_for (rounded size)) 0 ≡ r → on_pages pool m t (rounded size) r ≡ Ok done → page_at done.pages at ≡ Some page
      on_new (Err refusal) same h = absurd (cc)
      on_new (Ok start) same h =
          let left : page_at (after_allocation (Ok start) m Pool t (pages_for (rounded size))) at ≡ Some page
          = subst (λ (r : Result ℕ PageRefusal). page_at (after_allocation r m Pool t (pages_for (rounded size))) at ≡ Some page) same (leave m (Allocate Pool 0 t (pages_for (rounded size)) 0) at page there other) in
          subst (λ n. page_at n at ≡ Some page) (pages_is _ refl h) left

      by_gap : (o : Option Placed) → on_page pool m t (rounded size) o ≡ Ok done → page_at done.pages at ≡ Some page
      by_gap (Some placed) h = subst (λ n. page_at n at ≡ Some page) (pages_is _ refl h) there
      by_gap None h = on_new (allocation m 0 t (pages_for (rounded size)) 0) refl h

      by : (b : Bool) → (if b then on_page pool m t (rounded size) (gap_for pool t (rounded size)) else Err Invalid) ≡ Ok done → page_at done.pages at ≡ Some page
      by true h = by_gap (gap_for pool t (rounded size)) h
      by false h = absurd (cc)

  by_span : is_same_owner page.owner Pool ≡ false → (span : Option PageSpan) → Frees m span → page_at (with_freed m span) at ≡ Some page
  by_span other None f = there
  by_span other (Some span) f =
      subst (λ (r : Result (Unit {0}) PageRefusal). page_at (after_freeing r m span.start span.count) at ≡ Some page) f (leave m (Release Pool span.start span.count) at page there other)

  taken_back : (block : ℕ) → Frees m (freed_by (take_first pool block)) → pool_freeing pool m block ≡ Ok done → is_same_owner page.owner Pool ≡ false → page_at done.pages at ≡ Some page
  unfolding pool_freeing
  taken_back block f e other = by (take_first pool block) f e
    where
      by : (o : Option Taken) → Frees m (freed_by o) → on_taken m o ≡ Ok done → page_at done.pages at ≡ Some page
      by None f h = absurd (cc)
      by (Some taken) f h = subst (λ n. page_at n at ≡ Some page) (pages_is _ refl h) (by_span other taken.freed f)

pub leaves_others : CallsLeaveOthers → OwnedAreFreed → PoolLeavesOthers
leaves_others leave law pool m at page done whole all together there = (
  λ t size e other. allocated leave pool m at page done there t size e other,
  λ block e other. taken_back leave pool m at page done there block (frees law m whole pool block all together) e other,
)
