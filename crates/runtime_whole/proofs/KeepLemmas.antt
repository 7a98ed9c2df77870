-- What calls on pages and on the pool leave of the pages of others, and of their marks.
use Rattle.std.proofs.Common.{◌≡◌, ℕ, ◌+◌, true, List, [], ◌∷◌, length, refl, sym, ap, subst, ◌∙◌, inl, inr, Some, None}
use Rattle.std.specs.Prelude.{find, Option, Result, Ok, Err}
use Rattle.std.proofs.lemmas.Bool.Decides.{leb_tells}
use Rattle.guest_memory.specs.Pages.{Pages, page_of, touched_at}
use Rattle.guest_memory.specs.Changes.{cleared, zeroed}
use Rattle.page_alloc.specs.declared.page.Owner.TheVariants as owners
use Rattle.page_alloc.specs.declared.page.Page.{Page}
use Rattle.page_alloc.specs.Pages.{PageList, page_at, index_of, conventional, changed}
use Rattle.page_alloc.specs.Pages as pages
use Rattle.page_alloc.specs.Calls.{owns}
use Rattle.pool_alloc.specs.declared.block.Block.{Block}
use Rattle.pool_alloc.specs.declared.span.PageSpan.{PageSpan}
use Rattle.pool_alloc.specs.declared.refusal.PoolRefusal.{PoolRefusal}
use Rattle.pool_alloc.specs.Pool.{BlockPage, span_of, pages_of, begins_at, without, Taken, left_of, take_on, take_first, IsPool, Together}
use Rattle.pool_alloc.specs.Calls.{Done, with_freed, on_taken, freed_by, pages_freed, pool_freeing}
use Rattle.pool_alloc.specs.Laws.{PoolLeavesOthers}
use Rattle.image_services.specs.Unloads.{block_cleared}
use Rattle.runtime_whole.specs.Guards.{is_guarded}
use Rattle.runtime_whole.proofs.MarkLemmas.{stays_marked, cleared_keeps}
use Rattle.runtime_whole.proofs.PageLemmas.{InRun, changed_base, changed_long, changed_inside, owners_differ, unlike, owned_fit}

-- ---- what stays of a memory and its page map

-- The RAM is the same, and pages of which something is so keep their types and owners, and stay touched.
pub record Keeps (P : ℕ → Page → Type 0) (m n : Pages) (old new : PageList) : Type 0 where
  pub base : n.base ≡ m.base
  pub count : n.pages ≡ m.pages
  pub map_base : new.base ≡ old.base
  pub map_long : length new.pages ≡ length old.pages
  pub page : (at : ℕ) (page : Page) → page_at old at ≡ Some page → P at page → page_at new at ≡ Some page
  pub mark : (at : ℕ) (page : Page) → page_at old at ≡ Some page → P at page → touched_at m at ≡ true → touched_at n at ≡ true

pub keeps_on : (P : ℕ → Page → Type 0) (a b c : Pages) (m n o : PageList) → Keeps P a b m n → Keeps P b c n o → Keeps P a c m o
keeps_on P a b c m n o h k = record {
  base = k.base ∙ h.base;
  count = k.count ∙ h.count;
  map_base = k.map_base ∙ h.map_base;
  map_long = k.map_long ∙ h.map_long;
  page = λ at page e p. k.page at page (h.page at page e p) p;
  mark = λ at page e p t. k.mark at page (h.page at page e p) p (h.mark at page e p t);
}

pub nothing : (P : ℕ → Page → Type 0) (m : Pages) (list : PageList) → Keeps P m m list list
nothing P m list = record { base = refl; count = refl; map_base = refl; map_long = refl; page = λ at page e p. e; mark = λ at page e p t. t }

pub fewer : (P Q : ℕ → Page → Type 0) (m n : Pages) (old new : PageList) → ((at : ℕ) (page : Page) → Q at page → P at page) → Keeps P m n old new → Keeps Q m n old new
fewer P Q m n old new by h = record { base = h.base; count = h.count; map_base = h.map_base; map_long = h.map_long; page = λ at page e q. h.page at page e (by at page q); mark = λ at page e q t. h.mark at page e (by at page q) t }

-- a page apart from those that are cleared stays touched
pub apart_marked : (m : Pages) (list : PageList) (start count at : ℕ) → list.base ≡ m.base → (InRun list start count at → ⊥) → touched_at m at ≡ true → touched_at (cleared m (page_of m start) count) at ≡ true
apart_marked m list start count at base apart t =
    stays_marked m (cleared m (page_of m start) count) at refl refl (λ marked.
    elim (leb_tells (page_of m start) (page_of m at)) [
      | inr l ↦ cleared_keeps m (page_of m start) count (page_of m at) (inl l.1) marked
      | inl l ↦ elim (leb_tells (page_of m start + count) (page_of m at)) [
        | inl k ↦ cleared_keeps m (page_of m start) count (page_of m at) (inr k.1) marked
        | inr k ↦ absurd (apart (record { from = rw base l.1; to = rw base k.1 }))
      ]
    ]) t

-- ---- a block goes back to the pool

abbrev pub Guarded : ℕ → Page → Type 0
Guarded at page = is_guarded page.owner ≡ true

taken_owned : (page : BlockPage) (rest : BlockPage) (pool : List BlockPage) (size : ℕ) (left : List Block) (m : PageList) (span : PageSpan) → owns m owners.Pool page.start (pages_of page.blocks) ≡ true
    → (left_of page rest pool size left).freed ≡ Some span → owns m owners.Pool span.start span.count ≡ true
taken_owned page rest pool size [] m span own e =
    let is : span_of page ≡ span = cc in
    subst (λ (x : PageSpan). owns m owners.Pool x.start x.count ≡ true) is own
taken_owned page rest pool size (block ∷ blocks) m span own e = let bad : ⊥ = cc in absurd bad

-- pages that the pool gives back are its own
span_owned : (pool : List BlockPage) (m : PageList) (at : ℕ) (span : PageSpan) → Together pool m → freed_by (take_first pool at) ≡ Some span → owns m owners.Pool span.start span.count ≡ true
unfolding take_first
span_owned [] m at span t e = let bad : ⊥ = cc in absurd bad
span_owned (page ∷ pool) m at span t e = by (find (begins_at page at) page.blocks) (take_first pool at) e (span_owned pool m at span t.1)
  where
    by : (found : Option Block) (others : Option Taken) → freed_by (take_on page pool at found others) ≡ Some span → (freed_by others ≡ Some span → owns m owners.Pool span.start span.count ≡ true) → owns m owners.Pool span.start span.count ≡ true
    by (Some block) others h rest = taken_owned page (without page at) pool block.size (without page at).blocks m span t.0 h
    by None None h rest = let bad : ⊥ = cc in absurd bad
    by None (Some taken) h rest = rest h

-- the map behind FreePool
freed_map : (m : PageList) (taken : Option Taken) (done : Done) → on_taken m taken ≡ Ok done → done.pages ≡ with_freed m (freed_by taken)
freed_map m (Some taken) done e = let is : with_freed m taken.freed ≡ done.pages = ap pages_in e in sym is
  where
    pages_in : Result Done PoolRefusal → PageList
    pages_in (Ok d) = d.pages
    pages_in (Err refusal) = m
freed_map m None done e = let bad : ⊥ = cc in absurd bad

module _ (leave : PoolLeavesOthers) (pool : List BlockPage) (m : PageList) (memory : Pages) (at : ℕ) (done : Done) (wp : pages.Whole m) (is_pool : IsPool pool) (t : Together pool m) (base : m.base ≡ memory.base) (e : pool_freeing pool m at ≡ Ok done) where
  behind : done.pages ≡ with_freed m (pages_freed pool at)
  unfolding pool_freeing pages_freed
  behind = freed_map m (take_first pool at) done e

  owned : (span : PageSpan) → pages_freed pool at ≡ Some span → owns m owners.Pool span.start span.count ≡ true
  unfolding pages_freed
  owned span k = span_owned pool m at span t k

  stays : (x : ℕ) (page : Page) → page_at m x ≡ Some page → Guarded x page → page_at done.pages x ≡ Some page
  stays x page there g = (leave pool m x page done wp is_pool t there).1 at e (owners_differ page.owner owners.Pool g refl)

  by_span : (size : ℕ) (span : Option PageSpan) → pages_freed pool at ≡ span → done.pages ≡ with_freed m span → Keeps Guarded memory (block_cleared memory span at size) m done.pages
  by_span size None k same = record {
    base = refl;
    count = refl;
    map_base = ap (λ (p : PageList). p.base) same;
    map_long = ap (λ (p : PageList). length p.pages) same;
    page = stays;
    mark = λ x page there g marked. stays_marked memory (zeroed memory at size) x refl refl (λ h. h) marked;
  }
  by_span size (Some span) k same = record {
    base = refl;
    count = refl;
    map_base = ap (λ (p : PageList). p.base) same ∙ changed_base m span.start span.count conventional;
    map_long = ap (λ (p : PageList). length p.pages) same ∙ changed_long m span.start span.count conventional (owned_fit m owners.Pool span.start span.count (owned span k));
    page = stays;
    mark = λ x page there g marked.
        apart_marked memory m span.start span.count x base
        (λ run. unlike page conventional (sym (stays x page there g) ∙ ap (λ (p : PageList). page_at p x) same ∙ changed_inside m span.start span.count x page conventional there run) g refl) marked;
  }

  -- FreePool, with what it clears
  pub pool_keeps : (size : ℕ) → Keeps Guarded memory (block_cleared memory (pages_freed pool at) at size) m done.pages
  pool_keeps size = by_span size (pages_freed pool at) refl behind
