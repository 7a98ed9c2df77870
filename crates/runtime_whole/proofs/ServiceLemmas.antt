-- Services for pages and the pool.
use Rattle.std.proofs.Common.{◌≡◌, ℕ, Bool, true, false, List, refl, sym, subst, ◌∙◌, Some, None}
use Rattle.std.specs.Prelude.{Option, Result, Ok, Err, if◌then◌else◌}
use Rattle.uh_base.specs.Statuses.{success, invalid_parameter}
use Rattle.guest_memory.specs.Pages.{Pages, page_of}
use Rattle.guest_memory.specs.Changes.{cleared, zeroed}
use Rattle.page_alloc.specs.declared.page.Owner.TheVariants as owners
use Rattle.page_alloc.specs.declared.page.PageRefusal.{PageRefusal}
use Rattle.page_alloc.specs.Pages.{PageList, page_at, conventional, changed}
use Rattle.page_alloc.specs.Pages as pages
use Rattle.page_alloc.specs.Calls.{may_be_given, allocation, after_allocation, freeing}
use Rattle.page_alloc.specs.Laws.{CallsLeaveOthers}
use Rattle.pool_alloc.specs.declared.span.PageSpan.{PageSpan}
use Rattle.pool_alloc.specs.declared.refusal.PoolRefusal.{PoolRefusal}
use Rattle.pool_alloc.specs.Blocks.{rounded, pages_for}
use Rattle.pool_alloc.specs.Pool.{BlockPage, Placed, IsPool, Together}
use Rattle.pool_alloc.specs.Calls.{Done, pool_allocation, gap_for, span_at, span_beside, pages_allocated, pool_freeing, pages_freed as span_freed}
use Rattle.pool_alloc.specs.Laws.{PoolLeavesOthers}
use Rattle.address_view.specs.Stored.{lacks_seen, store_seen, stored}
use Rattle.uh_base.specs.LittleEndian.{low_bytes}
use Rattle.guest_call.specs.Arguments.{argument, low_word}
use Rattle.guest_call.specs.Checks.{can_write, number_seen}
use Rattle.guest_call.specs.declared.answer.Answer.TheVariants.{Gives, LacksFrames}
use Rattle.virtual_map.specs.States.{Runtime}
use Rattle.memory_services.specs.Ram.{MemoryDone, number_written}
use Rattle.memory_services.specs.PageServices.{PagesDone, with_map, pages_given, allocate_pages, pages_freed, free_pages}
use Rattle.memory_services.specs.PoolServices.{block_zeroed, PoolDone, with_block, block_given, allocate_pool, block_freed, free_pool}
use Rattle.image_services.specs.Images.{Loaded}
use Rattle.image_services.specs.Unloads.{block_cleared}
use Rattle.runtime_whole.specs.Boots.{BootWhole}
use Rattle.runtime_whole.specs.Guards.{LeavesGuarded}
use Rattle.runtime_whole.specs.Services.{PagesKeep, PoolKeeps}
use Rattle.runtime_whole.proofs.MarkLemmas.{stay_marked, stays_marked, Grows, stored_grows}
use Rattle.runtime_whole.proofs.PageLemmas.{changed_base, changed_long, not_conventional, owners_differ, given_stay, given_free, given_fits, freed_stay, freed_apart, owned_fit, freed_owned}
use Rattle.runtime_whole.proofs.PoolLemmas.{Took, took}
use Rattle.runtime_whole.proofs.KeepLemmas.{Keeps, keeps_on, nothing, apart_marked, Guarded, pool_keeps}
use Rattle.runtime_whole.proofs.BootLemmas.{guarded}

-- what keeps guarded pages keeps the state
pub kept : (r : Runtime) (images : List Loaded) (made : ℕ) (m : Pages) (list : PageList) → BootWhole r images made → Keeps Guarded r.memory m r.pages list → BootWhole (record r { memory = m; pages = list }) images made
kept r images made m list b k =
    let leaves : LeavesGuarded r (record r { memory = m; pages = list }) = record {
      layout = refl;
      ram = record { is_layout = b.ram.is_layout; base = k.base ∙ b.ram.base; count = k.count ∙ b.ram.count; map_base = k.map_base ∙ b.ram.map_base; map_count = k.map_long ∙ b.ram.map_count };
      view = refl;
      gone = refl;
      mapped = refl;
      pages = λ at page g. k.page at page g.0 g.1;
      touched = λ at page g t. k.mark at page g.0 g.1 t;
    } in
    guarded r (record r { memory = m; pages = list }) images made b leaves

pub grown : (m n : Pages) (list : PageList) → Grows m n → Keeps Guarded m n list list
grown m n list g = record { base = g.base; count = g.count; map_base = refl; map_long = refl; page = λ at page e h. e; mark = λ at page e h t. stay_marked m n g.base g.count g.stay at t }

stored_kept : (shown : ℕ → Option ℕ) (m : Pages) (at : ℕ) (bytes : List ℕ) (list : PageList) → Keeps Guarded m (stored shown m at bytes) list list
stored_kept shown m at bytes list = grown m (stored shown m at bytes) list (stored_grows shown m at bytes)

-- ---- pages that are given

given_kept : CallsLeaveOthers → (m : Pages) (list : PageList) (kind t count at start : ℕ) → pages.Whole list → list.base ≡ m.base → allocation list kind t count at ≡ Ok start
    → Keeps Guarded m (cleared m (page_of m start) count) list (after_allocation (Ok start) list owners.Pages t count)
given_kept leave m list kind t count at start wp base e = record {
  base = refl;
  count = refl;
  map_base = changed_base list start count (record { memory_type = t; owner = owners.Pages });
  map_long = changed_long list start count (record { memory_type = t; owner = owners.Pages }) (given_fits list kind t count at start e).inside;
  page = λ x page there g. given_stay leave list owners.Pages kind t count at start x page e there (not_conventional list x page wp there g);
  mark = λ x page there g marked. apart_marked m list start count x base (given_free leave list kind t count at start x page wp e there g) marked;
}

module _ (leave : CallsLeaveOthers) (shown : ℕ → Option ℕ) (m : Pages) (list : PageList) (wp : pages.Whole list) (base : list.base ≡ m.base) where
  abbrev done_if : Bool → Pages → ℕ → ℕ → MemoryDone
  done_if b prepared at value = if b then record { answer = LacksFrames; memory = m } else record { answer = Gives success; memory = store_seen shown prepared at 8 value }

  -- a number is written behind a change, or all is as before
  written_kept : (prepared : Pages) (given : PageList) (at value : ℕ) → Keeps Guarded m prepared list given
      → Keeps Guarded m (with_map (number_written shown m prepared at 8 value) list given).memory list (with_map (number_written shown m prepared at 8 value) list given).pages
  written_kept prepared given at value k = by (lacks_seen shown prepared at 8)
    where
      by : (b : Bool) → Keeps Guarded m (with_map (done_if b prepared at value) list given).memory list (with_map (done_if b prepared at value) list given).pages
      by true = nothing Guarded m list
      by false = keeps_on Guarded m prepared (store_seen shown prepared at 8 value) list given given k (stored_kept shown prepared at (low_bytes 8 value) given)

  given_all : (kind t count at wanted : ℕ) (r : Result ℕ PageRefusal) → allocation list kind t count wanted ≡ r → Keeps Guarded m (pages_given shown m list t count at r).memory list (pages_given shown m list t count at r).pages
  given_all kind t count at wanted (Ok start) e = written_kept (cleared m (page_of m start) count) (after_allocation (Ok start) list owners.Pages t count) at start (given_kept leave m list kind t count wanted start wp base e)
  given_all kind t count at wanted (Err refusal) e = nothing Guarded m list

  abbrev pages_asked : List ℕ → PagesDone
  pages_asked x = pages_given shown m list (low_word (argument 1 x)) (argument 2 x) (argument 3 x) (allocation list (low_word (argument 0 x)) (low_word (argument 1 x)) (argument 2 x) (number_seen shown m (argument 3 x) 8))

  abbrev no_pages : PagesDone
  no_pages = record { answer = Gives invalid_parameter; memory = m; pages = list }

  allocated : (x : List ℕ) → Keeps Guarded m (allocate_pages x shown m list).memory list (allocate_pages x shown m list).pages
  unfolding allocate_pages
  allocated x = by (can_write shown m (argument 3 x) 8)
    where
      by : (b : Bool) → Keeps Guarded m (if b then pages_asked x else no_pages).memory list (if b then pages_asked x else no_pages).pages
      by true = given_all (low_word (argument 0 x)) (low_word (argument 1 x)) (argument 2 x) (argument 3 x) (number_seen shown m (argument 3 x) 8) (allocation list (low_word (argument 0 x)) (low_word (argument 1 x)) (argument 2 x) (number_seen shown m (argument 3 x) 8)) refl
      by false = nothing Guarded m list

-- ---- pages that are taken back

freed_kept : CallsLeaveOthers → (m : Pages) (list : PageList) (at count : ℕ) → list.base ≡ m.base → freeing list owners.Pages at count ≡ Ok tt → Keeps Guarded m (cleared m (page_of m at) count) list (changed list at count conventional)
freed_kept leave m list at count base e = record {
  base = refl;
  count = refl;
  map_base = changed_base list at count conventional;
  map_long = changed_long list at count conventional (owned_fit list owners.Pages at count (freed_owned list owners.Pages at count e));
  page = λ x page there g. freed_stay leave list owners.Pages at count x page e there (owners_differ page.owner owners.Pages g refl);
  mark = λ x page there g marked. apart_marked m list at count x base (freed_apart leave list owners.Pages at count x page e there g (owners_differ page.owner owners.Pages g refl)) marked;
}

freed : CallsLeaveOthers → (x : List ℕ) (m : Pages) (list : PageList) → list.base ≡ m.base → Keeps Guarded m (free_pages x m list).memory list (free_pages x m list).pages
unfolding free_pages
freed leave x m list base = by (freeing list owners.Pages (argument 0 x) (argument 1 x)) refl
  where
    by : (r : Result (Unit {0}) PageRefusal) → freeing list owners.Pages (argument 0 x) (argument 1 x) ≡ r → Keeps Guarded m (pages_freed m list (argument 0 x) (argument 1 x) r).memory list (pages_freed m list (argument 0 x) (argument 1 x) r).pages
    by (Ok done) e = freed_kept leave m list (argument 0 x) (argument 1 x) base e
    by (Err refusal) e = nothing Guarded m list

pub pages_keep : CallsLeaveOthers → PagesKeep
pages_keep leave r images made x b wp =
    let base = b.ram.map_base ∙ sym b.ram.base in
    record {
      allocated = λ shown. kept r images made _ _ b (allocated leave shown r.memory r.pages wp base x);
      freed = kept r images made _ _ b (freed leave x r.memory r.pages base);
    }

-- ---- blocks that are given

-- pages that the pool takes are given to it
span_given : (list : PageList) (t size : ℕ) (gap : Option Placed) (span : PageSpan) → span_beside list t size gap ≡ Some span → allocation list 0 t span.count 0 ≡ Ok span.start
span_given list t size (Some placed) span e = let bad : ⊥ = cc in absurd bad
span_given list t size None span e = by (allocation list 0 t (pages_for size) 0) refl e
  where
    by : (r : Result ℕ PageRefusal) → allocation list 0 t (pages_for size) 0 ≡ r → span_at (pages_for size) r ≡ Some span → allocation list 0 t span.count 0 ≡ Ok span.start
    by (Ok start) d h =
        let is : record { start = start; count = pages_for size } ≡ span = cc in
        subst (λ (s : PageSpan). allocation list 0 t s.count 0 ≡ Ok s.start) is d
    by (Err refusal) d h = let bad : ⊥ = cc in absurd bad

pub span_taken : (pool : List BlockPage) (list : PageList) (t size : ℕ) (span : PageSpan) → pages_allocated pool list t size ≡ Some span → allocation list 0 t span.count 0 ≡ Ok span.start
unfolding pages_allocated
span_taken pool list t size span e = by (may_be_given t) e
  where
    by : (b : Bool) → (if b then span_beside list t (rounded size) (gap_for pool t (rounded size)) else None) ≡ Some span → allocation list 0 t span.count 0 ≡ Ok span.start
    by true h = span_given list t (rounded size) (gap_for pool t (rounded size)) span h
    by false h = let bad : ⊥ = cc in absurd bad

module _ (leave : CallsLeaveOthers) (m : Pages) (list : PageList) (pool : List BlockPage) (t size : ℕ) (done : Done) (wp : pages.Whole list) (base : list.base ≡ m.base) (e : pool_allocation pool list t size ≡ Ok done) where
  map_took : Took list done.pages
  map_took = took leave pool list t size done e

  by_span : (at len : ℕ) (span : Option PageSpan) → pages_allocated pool list t size ≡ span → Keeps Guarded m (block_zeroed m span at len) list done.pages
  by_span at len None d = record {
    base = refl;
    count = refl;
    map_base = map_took.base;
    map_long = map_took.long;
    page = λ x page there g. map_took.others x page there (not_conventional list x page wp there g);
    mark = λ x page there g marked. stays_marked m (zeroed m at len) x refl refl (λ h. h) marked;
  }
  by_span at len (Some span) d = record {
    base = refl;
    count = refl;
    map_base = map_took.base;
    map_long = map_took.long;
    page = λ x page there g. map_took.others x page there (not_conventional list x page wp there g);
    mark = λ x page there g marked. apart_marked m list span.start span.count x base (given_free leave list 0 t span.count 0 span.start x page wp (span_taken pool list t size span d) there g) marked;
  }

  -- AllocatePool, with what it clears
  pub block_kept : (at len : ℕ) → Keeps Guarded m (block_zeroed m (pages_allocated pool list t size) at len) list done.pages
  block_kept at len = by_span at len (pages_allocated pool list t size) refl

module _ (leave : CallsLeaveOthers) (shown : ℕ → Option ℕ) (m : Pages) (list : PageList) (pool : List BlockPage) (wp : pages.Whole list) (base : list.base ≡ m.base) where
  abbrev block_if : Bool → Pages → ℕ → ℕ → MemoryDone
  block_if b prepared at value = if b then record { answer = LacksFrames; memory = m } else record { answer = Gives success; memory = store_seen shown prepared at 8 value }

  block_written : (prepared : Pages) (at value : ℕ) (given : Done) → Keeps Guarded m prepared list given.pages
      → Keeps Guarded m (with_block (number_written shown m prepared at 8 value) list pool given).memory list (with_block (number_written shown m prepared at 8 value) list pool given).pages
  block_written prepared at value given k = by (lacks_seen shown prepared at 8)
    where
      by : (b : Bool) → Keeps Guarded m (with_block (block_if b prepared at value) list pool given).memory list (with_block (block_if b prepared at value) list pool given).pages
      by true = nothing Guarded m list
      by false = keeps_on Guarded m prepared (store_seen shown prepared at 8 value) list given.pages given.pages k (stored_kept shown prepared at (low_bytes 8 value) given.pages)

  block_all : (t size at : ℕ) (r : Result Done PoolRefusal) → pool_allocation pool list t size ≡ r → Keeps Guarded m (block_given shown m list pool t size at r).memory list (block_given shown m list pool t size at r).pages
  block_all t size at (Ok given) e = block_written (block_zeroed m (pages_allocated pool list t size) given.answer (rounded size)) at given.answer given (block_kept leave m list pool t size given wp base e given.answer (rounded size))
  block_all t size at (Err refusal) e = nothing Guarded m list

  abbrev block_asked : List ℕ → PoolDone
  block_asked x = block_given shown m list pool (low_word (argument 0 x)) (argument 1 x) (argument 2 x) (pool_allocation pool list (low_word (argument 0 x)) (argument 1 x))

  abbrev no_block : PoolDone
  no_block = record { answer = Gives invalid_parameter; memory = m; pages = list; pool = pool }

  block_allocated : (x : List ℕ) → Keeps Guarded m (allocate_pool x shown m list pool).memory list (allocate_pool x shown m list pool).pages
  unfolding allocate_pool
  block_allocated x = by (can_write shown m (argument 2 x) 8)
    where
      by : (b : Bool) → Keeps Guarded m (if b then block_asked x else no_block).memory list (if b then block_asked x else no_block).pages
      by true = block_all (low_word (argument 0 x)) (argument 1 x) (argument 2 x) (pool_allocation pool list (low_word (argument 0 x)) (argument 1 x)) refl
      by false = nothing Guarded m list

-- ---- blocks that are taken back

zeroed_same : (m : Pages) (span : Option PageSpan) (at size : ℕ) → block_cleared m span at size ≡ block_zeroed m span at size
zeroed_same m None at size = refl
zeroed_same m (Some span) at size = refl

block_taken : PoolLeavesOthers → (x : List ℕ) (m : Pages) (list : PageList) (pool : List BlockPage) → pages.Whole list → IsPool pool → Together pool list → list.base ≡ m.base → Keeps Guarded m (free_pool x m list pool).memory list (free_pool x m list pool).pages
unfolding free_pool
block_taken leave x m list pool wp is t base = by (pool_freeing pool list (argument 0 x)) refl
  where
    by : (r : Result Done PoolRefusal) → pool_freeing pool list (argument 0 x) ≡ r → Keeps Guarded m (block_freed m list pool (argument 0 x) r).memory list (block_freed m list pool (argument 0 x) r).pages
    by (Ok done) e = subst (λ (n : Pages). Keeps Guarded m n list done.pages) (zeroed_same m (span_freed pool (argument 0 x)) (argument 0 x) done.answer) (pool_keeps leave pool list m (argument 0 x) done wp is t base e done.answer)
    by (Err refusal) e = nothing Guarded m list

pub pool_law : CallsLeaveOthers → PoolLeavesOthers → PoolKeeps
pool_law leave pool_leave r images made pool x b wp is t =
    let base = b.ram.map_base ∙ sym b.ram.base in
    record {
      allocated = λ shown. kept r images made _ _ b (block_allocated leave shown r.memory r.pages pool wp base x);
      freed = kept r images made _ _ b (block_taken pool_leave x r.memory r.pages pool wp is t base);
    }
