-- What the definitions come to.
use Rattle.std.proofs.Common.{◌≡◌, ℕ, ◌+◌, ◌-◌, ◌*◌, ◌%◌, ◌^◌, ◌<◌, ◌≤◌, List, [], ◌∷◌, length, get_or, refl, sym, ap, ◌∙◌, arith, Bool, true, false, min, inl, inr, subst}
use Rattle.std.specs.Prelude.{slice_get, Some, None, Result, Ok, Err, is_ok, if◌then◌else◌}
use Rattle.std.proofs.lemmas.Bool.Decides.{nat_tests, leb_tells, Decides-eqb}
use Rattle.std.proofs.lemmas.List.{same_lists}
use Rattle.std.proofs.lemmas.Option.{slice_get-get_or}
use Rattle.page_alloc.specs.declared.page.Owner.{Owner}
use Rattle.page_alloc.specs.declared.page.Owner.TheVariants.{Free, Firmware, Pages, Pool, Image}
use Rattle.page_alloc.specs.declared.page.Page.{Page}
use Rattle.page_alloc.specs.declared.page.PageRefusal.{PageRefusal}
use Rattle.page_alloc.specs.Pages.{PageList, all_from, is_conventional, conventional, with_pages, changed, index_of}
use Rattle.page_alloc.specs.Fit.{is_fit, meets}
use Rattle.page_alloc.specs.Calls.{allocation, after_allocation, freeing, after_freeing, is_same_owner}
use Rattle.page_alloc.specs.Laws.{FitMeans, FreeRestores, OthersStay, KeyCounts, PageCall, after_call, after_calls, accepted, is_accepted}
use Rattle.page_alloc.specs.Laws.PageCall.{Allocate, Release}
use Rattle.page_alloc.proofs.PageLemmas.{all_from_tells, and_true, length-with_pages}
use Rattle.page_alloc.proofs.CallLemmas.{page_before, page_there, page_behind, owns_changed, is_given, free_owned}

-- a page that is there
pub there_is : (pages : List Page) (k : ℕ) (d page : Page) → slice_get pages k ≡ Some page → get_or pages k d ≡ page
there_is [] k d page e = absurd (cc)
there_is (p ∷ ps) Prim.Native.Nat.zero d page e = cc
there_is (p ∷ ps) (Prim.Native.Nat.suc k) d page e = there_is ps k d page e

kind_is : (base kind at count start : ℕ) → kind ≤ 2 → meets base kind at count start ≡ true → (kind ≡ 1 → base + 4096 * (start + count) ≤ at + 1) × (kind ≡ 2 → base + 4096 * start ≡ at)
unfolding meets
kind_is base kind at count start k h = (λ e. grind (arith, nat_tests), λ e. grind (arith, nat_tests))

is_kind : (base kind at count start : ℕ) → kind ≤ 2 → (kind ≡ 1 → base + 4096 * (start + count) ≤ at + 1) → (kind ≡ 2 → base + 4096 * start ≡ at) → meets base kind at count start ≡ true
unfolding meets
is_kind base kind at count start k last there = grind (arith, nat_tests)

pub fit_means : FitMeans
unfolding is_fit
fit_means m kind at count start k = (
  λ h.
      let p = and_true (all_from is_conventional m.pages start count) (meets m.base kind at count start) h in
      let passes = (all_from_tells is_conventional m.pages start count).0 p.0 in
      let kinds = kind_is m.base kind at count start k p.1 in
      record {
        inside = passes.inside;
        conventional = λ i page low high e. (Decides-eqb page.memory_type 7).0 (subst (λ q. is_conventional q ≡ true) (there_is m.pages i page page e) (passes.each i page low high));
        last = kinds.0;
        there = kinds.1;
      },
  λ f.
      let inside = f.inside in
      let pages : all_from is_conventional m.pages start count ≡ true = (all_from_tells is_conventional m.pages start count).1 (record {
        inside = inside;
        each = λ i d low high. (Decides-eqb (get_or m.pages i d).memory_type 7).1 (f.conventional i (get_or m.pages i d) low high (slice_get-get_or m.pages i d (omega arith)));
      }) in
      rw pages (is_kind m.base kind at count start k f.last f.there),
)

pub others_stay : OthersStay
unfolding changed
others_stay m at count k page inside apart = elim (leb_tells (length m.pages) k) [
  | inl p ↦ (let over : length m.pages ≤ k = p.1 in
      past (with_pages m.pages (index_of m at) count page) k (let l = length-with_pages m.pages (index_of m at) count page inside in omega (arith, l)) ∙ sym (past m.pages k over))
  | inr p ↦ (let under : k < length m.pages = p.1 in
      let l = length-with_pages m.pages (index_of m at) count page inside in
      slice_get-get_or (with_pages m.pages (index_of m at) count page) k page (omega (arith, l))
      ∙ ap Some (elim apart [ inl before ↦ page_before m.pages (index_of m at) count page inside k page before | inr behind ↦ page_behind m.pages (index_of m at) count page inside k page behind ])
      ∙ sym (slice_get-get_or m.pages k page under))
]
  where
    past : (pages : List Page) (n : ℕ) → length pages ≤ n → slice_get pages n ≡ None
    past [] n h = refl
    past (p ∷ ps) Prim.Native.Nat.zero h = absurd (omega arith)
    past (p ∷ ps) (Prim.Native.Nat.suc n) h = past ps n (omega arith)

pub one_owner : (owner : Owner) → is_same_owner owner owner ≡ true
one_owner Free = refl
one_owner Firmware = refl
one_owner Pages = refl
one_owner Pool = refl
one_owner Image = refl

-- conventional pages that became another's and conventional again
twice : (pages : List Page) (i n : ℕ) (page : Page) → i + n ≤ length pages → ((k : ℕ) (d : Page) → i ≤ k → k < i + n → get_or pages k d ≡ conventional)
    → with_pages (with_pages pages i n page) i n conventional ≡ pages
twice pages i n page inside same =
    let l : length (with_pages pages i n page) ≡ length pages = length-with_pages pages i n page inside in
    let inside' : i + n ≤ length (with_pages pages i n page) = omega (arith, l) in
    same_lists _ _ (length-with_pages (with_pages pages i n page) i n conventional inside' ∙ l)
    (λ k d under. elim (leb_tells i k) [
      | inr p ↦ (let before : k < i = p.1 in page_before (with_pages pages i n page) i n conventional inside' k d before ∙ page_before pages i n page inside k d before)
      | inl p ↦ (let low : i ≤ k = p.1 in elim (leb_tells (i + n) k) [
        | inl q ↦ (let behind : i + n ≤ k = q.1 in page_behind (with_pages pages i n page) i n conventional inside' k d behind ∙ page_behind pages i n page inside k d behind)
        | inr q ↦ (let high : k < i + n = q.1 in page_there (with_pages pages i n page) i n conventional inside' k d low high ∙ sym (same k d low high))
      ])
    ])

pub free_restores : FreeRestores
unfolding changed
free_restores m owner kind memory_type pages at start whole given =
    let g = is_given m kind memory_type pages at start given in
    let even = whole.ram.on_page in
    let there = g.there in
    let start_even : start % 4096 ≡ 0 = omega (arith, even, there) in
    let n = after_allocation (Ok start) m owner memory_type pages in
    let ok : freeing n owner start pages ≡ Ok tt
    = free_owned n owner start pages start_even g.some (owns_changed m start pages (record { memory_type = memory_type; owner = owner }) g.low g.each.inside (one_owner owner)) in (
      ok,
      ap (λ (r : Result (Unit {0}) PageRefusal). (after_freeing r n start pages).pages) ok
          ∙ twice m.pages (index_of m start) pages (record { memory_type = memory_type; owner = owner }) g.each.inside
          (λ k d low high. (let i = g.each.inside in whole.free k d (omega (arith, i, high))) ((Decides-eqb (get_or m.pages k d).memory_type 7).0 (g.each.each k d low high))),
    )

-- the key
allocated_key : (r : Result ℕ PageRefusal) (m : PageList) (owner : Owner) (t pages : ℕ) → (after_allocation r m owner t pages).key ≡ (if is_ok r then min (m.key + 1) (2 ^ 64 - 1) else m.key)
unfolding changed
allocated_key (Ok start) m owner t pages = refl
allocated_key (Err e) m owner t pages = refl

freed_key : {X : Type 0} (r : Result X PageRefusal) (m : PageList) (at pages : ℕ) → (after_freeing r m at pages).key ≡ (if is_ok r then min (m.key + 1) (2 ^ 64 - 1) else m.key)
unfolding changed
freed_key (Ok done) m at pages = refl
freed_key (Err e) m at pages = refl

call_key : (m : PageList) (call : PageCall) → (after_call m call).key ≡ (if is_accepted m call then min (m.key + 1) (2 ^ 64 - 1) else m.key)
call_key m (Allocate owner kind t pages at) = allocated_key (allocation m kind t pages at) m owner t pages
call_key m (Release owner at pages) = freed_key (freeing m owner at pages) m at pages

pub key_counts : KeyCounts
key_counts m [] small = omega arith
key_counts m (call ∷ calls) small = by (is_accepted m call) (call_key m call) (λ low. key_counts (after_call m call) calls low)
  where
    by : (b : Bool) → (after_call m call).key ≡ (if b then min (m.key + 1) (2 ^ 64 - 1) else m.key)
        → ((after_call m call).key < 2 ^ 64 → (after_calls (after_call m call) calls).key ≡ min ((after_call m call).key + accepted (after_call m call) calls) (2 ^ 64 - 1))
        → (after_calls (after_call m call) calls).key ≡ min (m.key + ((if b then 1 else 0) + accepted (after_call m call) calls)) (2 ^ 64 - 1)
    by true e rest = let r = rest (omega (arith, e)) in omega (arith, e, r)
    by false e rest = let r = rest (omega (arith, e)) in omega (arith, e, r)
