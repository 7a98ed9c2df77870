-- Tests of pages in a row.
use Rattle.std.proofs.Common.{◌≡◌, ℕ, ◌+◌, ◌-◌, ◌<◌, ◌≤◌, List, length, take, drop, get_or, refl, sym, ap, ◌∙◌, arith, Bool, true, false, length-drop, length-take, length-append, replicate, ◌++◌}
use Rattle.std.specs.Prelude.{◌&&◌, nat_le}
use Rattle.std.specs.Bool.{Decides}
use Rattle.std.specs.List.{list_all, All, AllPass}
use Rattle.std.proofs.lemmas.Bool.Decides.{nat_tests}
use Rattle.std.proofs.lemmas.List.{get_or-take, get_or-drop, length-replicate}
use Rattle.std.proofs.lemmas.List.Elements.{All-append, All-replicate, All-take, All-drop}
use Rattle.std.proofs.lemmas.List.Sums.{AllPass-from_list_all, list_all-from_AllPass}
use Rattle.page_alloc.specs.declared.page.Page.{Page}
use Rattle.page_alloc.specs.Pages.{Whole, IsNobodys, all_from, with_pages, next_key}

-- so many pages from a start on are there, and each passes the test
pub record Passes (test : Page → Bool) (pages : List Page) (start count : ℕ) : Type 0 where
  pub inside : start + count ≤ length pages
  pub each : (k : ℕ) (d : Page) → start ≤ k → k < start + count → test (get_or pages k d) ≡ true

decides_le : (a b : ℕ) → Decides (nat_le a b) (a ≤ b)
decides_le a b = (λ h. grind (arith, nat_tests), λ h. grind (arith, nat_tests))

within : (test : Page → Bool) (pages : List Page) (start count : ℕ) → start + count ≤ length pages
    → AllPass test (take count (drop start pages)) → (k : ℕ) (d : Page) → start ≤ k → k < start + count → test (get_or pages k d) ≡ true
within test pages start count inside h k d low high =
    let short : k - start < count = omega arith in
    let long : k - start < length (take count (drop start pages)) = omega (arith, length-take count (drop start pages), length-drop start pages) in
    let there : start + (k - start) ≡ k = omega arith in
    ap (λ j. test (get_or pages j d)) (sym there) ∙ (ap test (sym (get_or-take count (drop start pages) (k - start) d short ∙ get_or-drop start pages (k - start) d)) ∙ h (k - start) d long)

pass : (test : Page → Bool) (pages : List Page) (start count : ℕ) → start + count ≤ length pages
    → ((k : ℕ) (d : Page) → start ≤ k → k < start + count → test (get_or pages k d) ≡ true) → AllPass test (take count (drop start pages))
pass test pages start count inside h k d long =
    let short : k < count = omega (arith, length-take count (drop start pages), length-drop start pages) in
    ap test (get_or-take count (drop start pages) k d short ∙ get_or-drop start pages k d) ∙ h (start + k) d (omega arith) (omega arith)

pub and_true : (a b : Bool) → (a && b) ≡ true → (a ≡ true) × (b ≡ true)
and_true true b h = (refl, h)
and_true false b h = absurd (cc)

pub all_from_tells : (test : Page → Bool) (pages : List Page) (start count : ℕ) → Decides (all_from test pages start count) (Passes test pages start count)
unfolding all_from
all_from_tells test pages start count = (
  λ h. let p = and_true (nat_le (start + count) (length pages)) (list_all test (take count (drop start pages))) h in
      let q : nat_le (start + count) (length pages) ≡ true = p.0 in
      let inside : start + count ≤ length pages = grind (arith, nat_tests) in
      record { inside = inside; each = within test pages start count inside (AllPass-from_list_all test (take count (drop start pages)) p.1) },
  λ h. let i = h.inside in let e : nat_le (start + count) (length pages) ≡ true = grind (arith, nat_tests) in
      rw e (list_all-from_AllPass test (take count (drop start pages)) (pass test pages start count i h.each)),
)

-- more pages than there are fail a test
too_many_by : (test : Page → Bool) (pages : List Page) (start count : ℕ) (b : Bool) → all_from test pages start count ≡ b → length pages < count → b ≡ false
too_many_by test pages start count true h over = absurd (let i = ((all_from_tells test pages start count).0 h).inside in omega arith)
too_many_by test pages start count false h over = refl

pub too_many_fail : (test : Page → Bool) (pages : List Page) (start count : ℕ) → length pages < count → all_from test pages start count ≡ false
too_many_fail test pages start count over = too_many_by test pages start count (all_from test pages start count) refl over

-- pages that became the same leave a whole list
pub length-with_pages : (pages : List Page) (index count : ℕ) (page : Page) → index + count ≤ length pages → length (with_pages pages index count page) ≡ length pages
unfolding with_pages
length-with_pages pages index count page h = simp (length-append, length-replicate, length-take, length-drop) (omega arith)

pub all-with_pages : (P : Page → Type 0) (pages : List Page) (index count : ℕ) (page : Page) → All P pages → P page → All P (with_pages pages index count page)
unfolding with_pages
all-with_pages P pages index count page all here =
    All-append P (take index pages ++ replicate count page) (drop (index + count) pages)
    (All-append P (take index pages) (replicate count page) (All-take P index pages all) (All-replicate P count page here)) (All-drop P (index + count) pages all)

pub whole_changed : (base key key' : ℕ) (pages pages' : List Page) (start count : ℕ) (page : Page) → Whole (record { base = base; pages = pages; key = key }) → start + count ≤ length pages → IsNobodys page
    → pages' ≡ with_pages pages start count page → key' ≡ next_key key → Whole (record { base = base; pages = pages'; key = key' })
whole_changed base key key' pages pages' start count page whole inside nobodys p k =
    let low = whole.key_low in
    let high = whole.key_high in
    record {
      ram = rw (p, length-with_pages pages start count page inside) whole.ram;
      free = rw p (all-with_pages IsNobodys pages start count page whole.free nobodys);
      key_low = omega arith;
      key_high = omega arith;
    }
