-- Whose pages are whose behind a call.
use Rattle.std.proofs.Common.{◌≡◌, ℕ, ◌+◌, ◌<◌, ◌≤◌, ◌⊎◌, List, get_or, refl, ◌∙◌, arith, Bool, true, false, inl, inr, subst}
use Rattle.std.specs.Prelude.{slice_get, nat_le, Some, None, Result, Ok, Err, if◌then◌else◌}
use Rattle.std.proofs.lemmas.Bool.Decides.{leb_tells}
use Rattle.page_alloc.specs.declared.page.Owner.{Owner}
use Rattle.page_alloc.specs.declared.page.Owner.TheVariants.{Free, Firmware, Pages, Pool, Image}
use Rattle.page_alloc.specs.declared.page.Page.{Page}
use Rattle.page_alloc.specs.declared.page.PageRefusal.{PageRefusal}
use Rattle.page_alloc.specs.Pages.{PageList, Whole, page_at, changed, index_of, is_conventional, conventional}
use Rattle.page_alloc.specs.Calls.{allocation, after_allocation, freeing, after_freeing, owns, is_same_owner}
use Rattle.page_alloc.specs.Laws.{CallsLeaveOthers, OwnedStay, IsGiven, GivenAreOwned, OwnedAreFreed}
use Rattle.page_alloc.specs.Laws.PageCall.{Allocate, Release}
use Rattle.page_alloc.proofs.PageLemmas.{Passes}
use Rattle.page_alloc.proofs.CallLemmas.{has_owner, owns_tells, owns_changed, owns_kept, Given, is_given, given_apart, free_owned, freeing_owns, freeing_some}
use Rattle.page_alloc.proofs.LawLemmas.{there_is, others_stay, one_owner}

-- the page at an address, where the list of pages is the same there
page_by : (m : PageList) (pages : List Page) (key at : ℕ) (page : Page) → page_at m at ≡ Some page → slice_get pages (index_of m at) ≡ slice_get m.pages (index_of m at) → page_at (record { base = m.base; pages = pages; key = key }) at ≡ Some page
unfolding page_at
page_by m pages key at page e same = by (nat_le m.base at) e
  where
    by : (b : Bool) → (if b then slice_get m.pages (index_of m at) else None) ≡ Some page → (if b then slice_get pages (index_of m at) else None) ≡ Some page
    by true h = same ∙ h
    by false h = absurd (cc)

there : (m : PageList) (at : ℕ) (page : Page) → page_at m at ≡ Some page → slice_get m.pages (index_of m at) ≡ Some page
unfolding page_at
there m at page e = by (nat_le m.base at) e
  where
    by : (b : Bool) → (if b then slice_get m.pages (index_of m at) else None) ≡ Some page → slice_get m.pages (index_of m at) ≡ Some page
    by true h = h
    by false h = absurd (cc)

-- a page that fails the test of all that change stays
outside : (test : Page → Bool) (pages : List Page) (start count k : ℕ) (page : Page) → Passes test pages start count → slice_get pages k ≡ Some page → test page ≡ false → (k < start) ⊎ (start + count ≤ k)
outside test pages start count k page passes e fails = elim (leb_tells start k) [
  | inr p ↦ inl p.1
  | inl p ↦ (let low : start ≤ k = p.1 in elim (leb_tells (start + count) k) [
    | inl q ↦ inr q.1
    | inr q ↦ absurd (let holds = passes.each k page low q.1 in
        let clash : test page ≡ true = subst (λ x. test x ≡ true) (there_is pages k page page e) holds in cc)
  ])
]

stays : (test : Page → Bool) (m : PageList) (start count at : ℕ) (page new : Page) → Passes test m.pages (index_of m start) count → page_at m at ≡ Some page → test page ≡ false → page_at (changed m start count new) at ≡ Some page
unfolding changed
stays test m start count at page new passes e fails =
    page_by m (changed m start count new).pages (changed m start count new).key at page e
    (others_stay m start count (index_of m at) new passes.inside (outside test m.pages (index_of m start) count (index_of m at) page passes (there m at page e) fails))

allocated : (r : Result ℕ PageRefusal) (m : PageList) (owner : Owner) (kind t pages at p : ℕ) (page : Page) → allocation m kind t pages at ≡ r → page_at m p ≡ Some page → is_conventional page ≡ false → page_at (after_allocation r m owner t pages) p ≡ Some page
allocated (Ok start) m owner kind t pages at p page e there fails = stays is_conventional m start pages p page (record { memory_type = t; owner = owner }) (is_given m kind t pages at start e).each there fails
allocated (Err refusal) m owner kind t pages at p page e there fails = there

freed : (r : Result (Unit {0}) PageRefusal) (m : PageList) (owner : Owner) (pages at p : ℕ) (page : Page) → freeing m owner at pages ≡ r → page_at m p ≡ Some page → is_same_owner page.owner owner ≡ false → page_at (after_freeing r m at pages) p ≡ Some page
freed (Ok done) m owner pages at p page e there fails = stays (has_owner owner) m at pages p page conventional ((owns_tells m owner at pages).0 (freeing_owns m owner at pages done e)).each there fails
freed (Err refusal) m owner pages at p page e there fails = there

pub calls_leave_others : CallsLeaveOthers
calls_leave_others m (Allocate owner kind t pages at) p page there fails = allocated (allocation m kind t pages at) m owner kind t pages at p page refl there fails
calls_leave_others m (Release owner at pages) p page there fails = freed (freeing m owner at pages) m owner pages at p page refl there fails

-- what another has isn't the releaser's
other_released : (a b c : Owner) → is_same_owner a b ≡ true → is_same_owner b c ≡ false → is_same_owner a c ≡ false
other_released Free Free c e h = h
other_released Firmware Firmware c e h = h
other_released Pages Pages c e h = h
other_released Pool Pool c e h = h
other_released Image Image c e h = h
other_released Free Firmware c e h = absurd (cc)
other_released Free Pages c e h = absurd (cc)
other_released Free Pool c e h = absurd (cc)
other_released Free Image c e h = absurd (cc)
other_released Firmware Free c e h = absurd (cc)
other_released Firmware Pages c e h = absurd (cc)
other_released Firmware Pool c e h = absurd (cc)
other_released Firmware Image c e h = absurd (cc)
other_released Pages Free c e h = absurd (cc)
other_released Pages Firmware c e h = absurd (cc)
other_released Pages Pool c e h = absurd (cc)
other_released Pages Image c e h = absurd (cc)
other_released Pool Free c e h = absurd (cc)
other_released Pool Firmware c e h = absurd (cc)
other_released Pool Pages c e h = absurd (cc)
other_released Pool Image c e h = absurd (cc)
other_released Image Free c e h = absurd (cc)
other_released Image Firmware c e h = absurd (cc)
other_released Image Pages c e h = absurd (cc)
other_released Image Pool c e h = absurd (cc)

-- pages of an owner's that are apart from those that another owner had
owned_apart : (m : PageList) (owner other : Owner) (p count at n : ℕ) → is_same_owner owner other ≡ false → 0 < count → 0 < n → owns m owner p count ≡ true → owns m other at n ≡ true
    → (index_of m p + count ≤ index_of m at) ⊎ (index_of m at + n ≤ index_of m p)
owned_apart m owner other p count at n differ some more h g =
    let o = (owns_tells m owner p count).0 h in
    let q = (owns_tells m other at n).0 g in
    elim (leb_tells (index_of m p + count) (index_of m at)) [
      | inl l ↦ inl l.1
      | inr l ↦ elim (leb_tells (index_of m at + n) (index_of m p)) [
        | inl r ↦ inr r.1
        | inr r ↦ absurd (let over = l.1 in let under = r.1 in elim (leb_tells (index_of m p) (index_of m at)) [
          | inl s ↦ (let low : index_of m p ≤ index_of m at = s.1 in
              let one = o.each.each (index_of m at) conventional low over in
              let two = q.each.each (index_of m at) conventional (omega arith) (omega arith) in
              let clash = other_released (get_or m.pages (index_of m at) conventional).owner owner other one differ in cc)
          | inr s ↦ (let low : index_of m at < index_of m p = s.1 in
              let one = o.each.each (index_of m p) conventional (omega arith) (omega arith) in
              let two = q.each.each (index_of m p) conventional (omega arith) under in
              let clash = other_released (get_or m.pages (index_of m p) conventional).owner owner other one differ in cc)
        ])
      ]
    ]

stay_allocated : (r : Result ℕ PageRefusal) (m : PageList) (owner other : Owner) (kind t pages at p count : ℕ) → allocation m kind t pages at ≡ r → Whole m → is_same_owner Free owner ≡ false → 0 < count → owns m owner p count ≡ true
    → owns (after_allocation r m other t pages) owner p count ≡ true
stay_allocated (Err refusal) m owner other kind t pages at p count e whole taken some owned = owned
stay_allocated (Ok start) m owner other kind t pages at p count e whole taken some owned =
    let g = is_given m kind t pages at start e in
    owns_kept m owner p count start pages (record { memory_type = t; owner = other }) g.each.inside (given_apart m owner p count start pages whole taken some owned g) owned

stay_freed : (r : Result (Unit {0}) PageRefusal) (m : PageList) (owner other : Owner) (pages at p count : ℕ) → freeing m other at pages ≡ r → is_same_owner owner other ≡ false → 0 < count → owns m owner p count ≡ true
    → owns (after_freeing r m at pages) owner p count ≡ true
stay_freed (Err refusal) m owner other pages at p count e differ some owned = owned
stay_freed (Ok done) m owner other pages at p count e differ some owned =
    let o = freeing_owns m other at pages done e in
    owns_kept m owner p count at pages conventional ((owns_tells m other at pages).0 o).each.inside (owned_apart m owner other p count at pages differ some (freeing_some m other at pages done e) owned o) owned

pub owned_stay : OwnedStay
owned_stay m (Allocate other kind t pages at) owner p count whole taken mine some owned = stay_allocated (allocation m kind t pages at) m owner other kind t pages at p count refl whole taken some owned
owned_stay m (Release other at pages) owner p count whole taken differ some owned = stay_freed (freeing m other at pages) m owner other pages at p count refl differ some owned

given_is : (m : PageList) (start pages : ℕ) → Whole m → Given m start pages → IsGiven m start pages
given_is m start pages whole g =
    let even = whole.ram.on_page in
    let there = g.there in
    let inside = g.each.inside in
    record {
      some = g.some;
      on_page = omega (arith, even, there);
      low = g.low;
      high = omega (arith, there, inside);
      new = λ owner at count taken on some owned. (
          let low = ((owns_tells m owner at count).0 owned).low in
          elim (given_apart m owner at count start pages whole taken some owned g) [ inl before ↦ inl (omega (arith, before, low, even, on, there)) | inr behind ↦ inr (omega (arith, behind, low, even, on, there)) ]);
    }

pub given_are_owned : GivenAreOwned
given_are_owned m owner kind t pages at start whole e =
    let g = is_given m kind t pages at start e in
    (given_is m start pages whole g, owns_changed m start pages (record { memory_type = t; owner = owner }) g.low g.each.inside (one_owner owner))

pub owned_are_freed : OwnedAreFreed
owned_are_freed m owner at pages whole on some owned = (
  free_owned m owner at pages on some owned,
  λ other p count on' apart had.
      (let low = ((owns_tells m owner at pages).0 owned).low in
      let low' = ((owns_tells m other p count).0 had).low in
      let even = whole.ram.on_page in
      owns_kept m other p count at pages conventional ((owns_tells m owner at pages).0 owned).each.inside
      (elim apart [ inl before ↦ inl (omega (arith, before, low, low', even, on, on')) | inr behind ↦ inr (omega (arith, behind, low, low', even, on, on')) ]) had),
)
