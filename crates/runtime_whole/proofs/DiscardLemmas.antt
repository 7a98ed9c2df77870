-- An image is discarded.
use Rattle.std.proofs.Common.{◌≡◌, ◌⊎◌, ℕ, suc, ◌+◌, ◌*◌, ◌%◌, ◌≤◌, ◌<◌, Bool, true, false, List, [], ◌∷◌, length, get_or, refl, sym, subst, ◌∙◌, arith, inl, inr, Some, None}
use Rattle.std.specs.Prelude.{not, find, Option, Result, Ok, Err, if◌then◌else◌}
use Rattle.std.specs.List.{All, AllPairs}
use Rattle.std.proofs.lemmas.Bool.Decides.{nat_tests, leb_tells}
use Rattle.std.proofs.lemmas.List.Elements.{All-filter, filter_passes}
use Rattle.std.proofs.lemmas.List.Kept.{AllPairs-filter}
use Rattle.guest_memory.specs.Pages.{Pages, page_of}
use Rattle.guest_memory.specs.Changes.{cleared}
use Rattle.page_alloc.specs.declared.page.Owner.TheVariants as owners
use Rattle.page_alloc.specs.declared.page.Page.{Page}
use Rattle.page_alloc.specs.declared.page.PageRefusal.{PageRefusal}
use Rattle.page_alloc.specs.Pages.{PageList, page_at, index_of, conventional, changed}
use Rattle.page_alloc.specs.Pages as pages
use Rattle.page_alloc.specs.Opening.{firmware}
use Rattle.page_alloc.specs.Calls.{is_same_owner, freeing, after_freeing}
use Rattle.page_alloc.specs.Laws.{CallsLeaveOthers, OthersStay}
use Rattle.pool_alloc.specs.declared.refusal.PoolRefusal.{PoolRefusal}
use Rattle.pool_alloc.specs.Pool.{IsPool, Together}
use Rattle.pool_alloc.specs.Calls.{Done, pool_freeing}
use Rattle.pool_alloc.specs.Laws.{PoolLeavesOthers}
use Rattle.virtual_map.specs.States.{Runtime}
use Rattle.image_services.specs.declared.refusal.UnloadRefusal.TheVariants as refusals
use Rattle.image_services.specs.Images.{Loaded, has_handle, find_image, without_image}
use Rattle.image_services.specs.Laws.{AreInOrder, OrderStays}
use Rattle.image_services.specs.Stores.{Space, Store, space_of}
use Rattle.image_services.specs.Unloads.{block_freed, without_block, pages_cleared, without_pages, without_loaded, discarded, unloaded_by, unloaded}
use Rattle.runtime_whole.specs.Boots.{IsPlaced, image_page, ShareNone, with_store, StoreWhole}
use Rattle.runtime_whole.specs.Guards.{is_guarded}
use Rattle.runtime_whole.specs.Laws.{DiscardsKeep, UnloadsKeep}
use Rattle.runtime_whole.proofs.ListLemmas.{few_left, all_cons, found_all}
use Rattle.runtime_whole.proofs.PageLemmas.{there_is, InRun, changed_base, changed_long, changed_outside, freed_stay, freed_apart, owned_fit, freed_owned}
use Rattle.runtime_whole.proofs.KeepLemmas.{Keeps, keeps_on, nothing, fewer, apart_marked, Guarded, pool_keeps}
use Rattle.runtime_whole.proofs.BootLemmas.{Stays, placed_by, places_by, arguments_by}

block_keeps : PoolLeavesOthers → (s : Space) (at : ℕ) → pages.Whole s.pages → IsPool s.pool → Together s.pool s.pages → s.pages.base ≡ s.memory.base → Keeps Guarded s.memory (without_block s at).memory s.pages (without_block s at).pages
unfolding without_block
block_keeps leave s at wp is_pool t base = by (pool_freeing s.pool s.pages at) refl
  where
    by : (r : Result Done PoolRefusal) → pool_freeing s.pool s.pages at ≡ r → Keeps Guarded s.memory (block_freed s at r).memory s.pages (block_freed s at r).pages
    by (Ok done) e = pool_keeps leave s.pool s.pages s.memory at done wp is_pool t base e done.answer
    by (Err refusal) e = nothing Guarded s.memory s.pages

-- ---- pages of images go back

-- the firmware's, or outside so many pages from an address on
abbrev pub Left : ℕ → ℕ → ℕ → Page → Type 0
Left start count at page = (is_guarded page.owner ≡ true) × ((is_same_owner page.owner owners.Image ≡ false) ⊎ ((at < start) ⊎ (start + 4096 * count ≤ at)))

module _ (leave : CallsLeaveOthers) (others : OthersStay) (m : PageList) (memory : Pages) (start count : ℕ) (base : m.base ≡ memory.base) (even : m.base % 4096 ≡ 0) (on_page : start % 4096 ≡ 0) (low : m.base ≤ start)
    (e : freeing m owners.Image start count ≡ Ok tt) where
  outside_run : (x : ℕ) → m.base ≤ x → (x < start) ⊎ (start + 4096 * count ≤ x) → (index_of m x < index_of m start) ⊎ (index_of m start + count ≤ index_of m x)
  outside_run x from (inl before) = inl (omega (arith, even, on_page, low, from, before))
  outside_run x from (inr behind) = inr (omega (arith, even, on_page, low, from, behind))

  not_in_run : (x : ℕ) → (index_of m x < index_of m start) ⊎ (index_of m start + count ≤ index_of m x) → InRun m start count x → ⊥
  not_in_run x (inl before) run = let from = run.from in absurd (omega (arith, before, from))
  not_in_run x (inr behind) run = let to = run.to in absurd (omega (arith, behind, to))

  fits : index_of m start + count ≤ length m.pages
  fits = owned_fit m owners.Image start count (freed_owned m owners.Image start count e)

  page_left : (x : ℕ) (page : Page) → page_at m x ≡ Some page → (is_same_owner page.owner owners.Image ≡ false) ⊎ ((x < start) ⊎ (start + 4096 * count ≤ x)) → page_at (changed m start count conventional) x ≡ Some page
  page_left x page there (inl other) = freed_stay leave m owners.Image start count x page e there other
  page_left x page there (inr out) = changed_outside others m start count x page conventional fits (outside_run x (there_is m x page there).0 out) there

  apart_left : (x : ℕ) (page : Page) → page_at m x ≡ Some page → is_guarded page.owner ≡ true → (is_same_owner page.owner owners.Image ≡ false) ⊎ ((x < start) ⊎ (start + 4096 * count ≤ x)) → InRun m start count x → ⊥
  apart_left x page there g (inl other) run = freed_apart leave m owners.Image start count x page e there g other run
  apart_left x page there g (inr out) run = not_in_run x (outside_run x (there_is m x page there).0 out) run

  cleared_left : Keeps (Left start count) memory (cleared memory (page_of memory start) count) m (changed m start count conventional)
  cleared_left = record {
    base = refl;
    count = refl;
    map_base = changed_base m start count conventional;
    map_long = changed_long m start count conventional fits;
    page = λ x page there left. page_left x page there left.1;
    mark = λ x page there left marked. apart_marked memory m start count x base (apart_left x page there left.0 left.1) marked;
  }

pages_keep : CallsLeaveOthers → OthersStay → (s : Space) (start count : ℕ) → s.pages.base ≡ s.memory.base → s.pages.base % 4096 ≡ 0 → start % 4096 ≡ 0 → s.pages.base ≤ start
    → Keeps (Left start count) s.memory (without_pages s start count).memory s.pages (without_pages s start count).pages
unfolding without_pages
pages_keep leave others s start count base even on_page low = by (freeing s.pages owners.Image start count) refl
  where
    by : (r : Result (Unit {0}) PageRefusal) → freeing s.pages owners.Image start count ≡ r → Keeps (Left start count) s.memory (pages_cleared s.memory start count r) s.pages (after_freeing r s.pages start count)
    by (Ok done) e = cleared_left leave others s.pages s.memory start count base even on_page low e
    by (Err refusal) e = nothing (Left start count) s.memory s.pages

-- ---- the image

is_itself : (h : ℕ) (image : Loaded) → has_handle h image ≡ true → image.handle ≡ h
is_itself h image e = grind (arith, nat_tests)

handle_found : (h : ℕ) (images : List Loaded) (image : Loaded) → find_image images h ≡ Some image → image.handle ≡ h
handle_found h [] image e = let bad : ⊥ = cc in absurd bad
handle_found h (i ∷ is) image e = by (has_handle h i) refl e (handle_found h is image)
  where
    by : (b : Bool) → has_handle h i ≡ b → (if b then Some i else find (has_handle h) is) ≡ Some image → (find (has_handle h) is ≡ Some image → image.handle ≡ h) → image.handle ≡ h
    by true d k rest = let same : i ≡ image = cc in subst (λ (x : Loaded). x.handle ≡ h) same (is_itself h i d)
    by false d k rest = rest k

turned : (a b : Loaded) → ShareNone a b → ShareNone b a
turned a b h = λ at c d e f. h at e f c d

-- the image of a handle shares no page with those of others
others_share : (h : ℕ) (images : List Loaded) (image : Loaded) → AllPairs ShareNone images → find_image images h ≡ Some image → All (λ (i : Loaded). has_handle h i ≡ false → ShareNone image i) images
others_share h [] image apart e = let bad : ⊥ = cc in absurd bad
others_share h (i ∷ is) image apart e = by (has_handle h i) refl e (others_share h is image (λ a b d before inside. apart (suc a) (suc b) d (omega (arith, before)) (omega (arith, inside))))
  where
    heads : All (λ (x : Loaded). ShareNone i x) is
    heads = λ k d l. apart 0 (suc k) d (omega arith) (omega (arith, l))

    by : (b : Bool) → has_handle h i ≡ b → (if b then Some i else find (has_handle h) is) ≡ Some image → (find (has_handle h) is ≡ Some image → All (λ (x : Loaded). has_handle h x ≡ false → ShareNone image x) is) → All (λ (x : Loaded). has_handle h x ≡ false → ShareNone image x) (i ∷ is)
    by true d k rest =
        let same : i ≡ image = cc in
        all_cons (λ (x : Loaded). has_handle h x ≡ false → ShareNone image x) i is (λ other. let bad : ⊥ = cc in absurd bad) (λ n y l other. subst (λ (z : Loaded). ShareNone z (get_or is n y)) same (heads n y l))
    by false d k rest = all_cons (λ (x : Loaded). has_handle h x ≡ false → ShareNone image x) i is (λ other. turned i image (found_all (λ (x : Loaded). ShareNone i x) (has_handle h) is image heads k)) (rest k)

not_true : (b : Bool) → not b ≡ true → b ≡ false
not_true false e = refl
not_true true e = let bad : ⊥ = cc in absurd bad

out_of : (image i : Loaded) (at : ℕ) → ShareNone image i → i.base ≤ at → at < i.base + 4096 * i.pages → (at < image.base) ⊎ (image.base + 4096 * image.pages ≤ at)
out_of image i at none low high =
    elim (leb_tells image.base at) [
      | inr l ↦ inl l.1
      | inl l ↦ elim (leb_tells (image.base + 4096 * image.pages) at) [ inl k ↦ inr k.1 | inr k ↦ absurd (none at l.1 k.1 low high) ]
    ]

module _ (leave : CallsLeaveOthers) (others : OthersStay) (pool_leaves : PoolLeavesOthers) (r : Runtime) (s : Store) (handle : ℕ) (b : StoreWhole r s) (wp : pages.Whole s.pages) (is_pool : IsPool s.pool) (t : Together s.pool s.pages) (image : Loaded)
    (e : find_image s.images handle ≡ Some image) where
  abbrev after : Store
  after = without_loaded s (Some image)

  abbrev middle : Space
  middle = without_block (space_of s) image.block

  abbrev old : Runtime
  old = with_store r s

  abbrev new : Runtime
  new = with_store r after

  same_base : s.pages.base ≡ s.memory.base
  same_base = b.ram.map_base ∙ sym b.ram.base

  placed : IsPlaced old image
  placed = found_all (IsPlaced old) (has_handle handle) s.images image b.placed e

  first : Keeps Guarded s.memory middle.memory s.pages middle.pages
  first = block_keeps pool_leaves (space_of s) image.block wp is_pool t same_base

  second : Keeps (Left image.base image.pages) middle.memory after.memory middle.pages after.pages
  second =
      let even = wp.ram.on_page in
      let low = placed.low in
      let map = b.ram.map_base in
      let mb = first.map_base in
      pages_keep leave others middle image.base image.pages (first.map_base ∙ same_base ∙ sym first.base) (omega (arith, even, mb)) placed.on_page (omega (arith, low, map, mb))

  both : Keeps (Left image.base image.pages) s.memory after.memory s.pages after.pages
  both = keeps_on (Left image.base image.pages) s.memory middle.memory after.memory s.pages middle.pages after.pages (fewer Guarded (Left image.base image.pages) s.memory middle.memory s.pages middle.pages (λ at page left. left.0) first) second

  is_other : All (λ (i : Loaded). ShareNone image i) (without_image s.images image.handle)
  is_other = λ k d l.
      let h = handle_found handle s.images image e in
      let i = get_or (without_image s.images image.handle) k d in
      let passed = not_true (has_handle image.handle i) (filter_passes (λ (x : Loaded). not (has_handle image.handle x)) s.images k d l) in
      All-filter (λ (x : Loaded). not (has_handle image.handle x)) (λ (x : Loaded). has_handle handle x ≡ false → ShareNone image x) s.images (others_share handle s.images image b.apart e) k d l (subst (λ (n : ℕ). has_handle n i ≡ false) h passed)

  image_stays : (i : Loaded) → ShareNone image i → Stays old new i
  image_stays i none = record {
    page = λ at low high there. both.page at (image_page i) there (refl, inr (out_of image i at none low high));
    mark = λ at low high there marked. both.mark at (image_page i) there (refl, inr (out_of image i at none low high)) marked;
  }

  gone_whole : AreInOrder after.images after.protocols.handles.made → StoreWhole r after
  gone_whole order = record {
    ram = record {
      is_layout = b.ram.is_layout;
      base = both.base ∙ b.ram.base;
      count = both.count ∙ b.ram.count;
      map_base = both.map_base ∙ b.ram.map_base;
      map_count = both.map_long ∙ b.ram.map_count;
    };
    places = places_by old new refl (λ at memory_type there. both.page at (firmware memory_type) there (refl, inl refl)) b.places;
    view = b.view;
    gone = b.gone;
    mapped = b.mapped;
    placed = λ k d l. (
        let i = get_or (without_image s.images image.handle) k d in
        placed_by old new i refl (image_stays i (is_other k d l)) (All-filter (λ (x : Loaded). not (has_handle image.handle x)) (IsPlaced old) s.images b.placed k d l));
    apart = AllPairs-filter ShareNone (λ (x : Loaded). not (has_handle image.handle x)) s.images b.apart;
    few = let less = few_left (λ (x : Loaded). not (has_handle image.handle x)) s.images in let few = b.few in omega (arith, less, few);
    order = order;
    arguments = arguments_by old new s.images s.protocols.handles.made b refl (λ at there marked. both.mark at (firmware 2) there (refl, inl refl) marked);
  }

pub discards : CallsLeaveOthers → OthersStay → PoolLeavesOthers → OrderStays → DiscardsKeep
unfolding discarded
discards leave others pool_leaves order r s handle b wp is_pool t = by (find_image s.images handle) refl (order.discard s handle b.order)
  where
    by : (found : Option Loaded) → find_image s.images handle ≡ found → AreInOrder (without_loaded s found).images (without_loaded s found).protocols.handles.made → StoreWhole r (without_loaded s found)
    by None e o = b
    by (Some image) e o = gone_whole leave others pool_leaves r s handle b wp is_pool t image e o

pub unloads : DiscardsKeep → UnloadsKeep
unfolding unloaded
unloads law r s after handle (Ok done) b wp is_pool t e = by (find_image s.images handle) e
  where
    by : (found : Option Loaded) → unloaded_by s found ≡ Ok after → StoreWhole r after
    by None h = let bad : ⊥ = cc in absurd bad
    by (Some image) h = held image.started h
      where
        held : (started : Bool) → (if started then Err refusals.Started else Ok (discarded s image.handle)) ≡ Ok after → StoreWhole r after
        held true k = let bad : ⊥ = cc in absurd bad
        held false k = let is : discarded s image.handle ≡ after = cc in subst (StoreWhole r) is (law r s image.handle b wp is_pool t)
unloads law r s after handle (Err refusal) b wp is_pool t e = subst (StoreWhole r) (sym e.1) b
