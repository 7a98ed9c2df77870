-- What a change of pages leaves at each page, and whose pages are whose behind it.
use Rattle.std.proofs.Common.{◌≡◌, ℕ, ◌+◌, ◌-◌, ◌*◌, ◌%◌, ◌^◌, ◌<◌, ◌≤◌, List, length, take, drop, get_or, replicate, ◌++◌, refl, ap, ◌∙◌, arith, Bool, true, false, min, ◌⊎◌, inl, inr, length-append, subst}
use Rattle.std.specs.Prelude.{◌&&◌, ◌==◌, nat_le, nat_lt, Option, Some, None, Ok, Err, if◌then◌else◌}
use Rattle.std.proofs.lemmas.Bool.Decides.{nat_tests, leb_tells, Decides-eqb}
use Rattle.std.proofs.lemmas.List.{get_or_append_left, get_or-append_right, get_or-take, get_or-drop, get_or-replicate, length-replicate, length-take-le}
use Rattle.std.specs.Bool.{Decides}
use Rattle.page_alloc.specs.declared.page.Owner.{Owner}
use Rattle.page_alloc.specs.declared.page.Owner.TheVariants.{Free}
use Rattle.page_alloc.specs.declared.page.Page.{Page}
use Rattle.page_alloc.specs.declared.page.PageRefusal.TheVariants.{Invalid, NotFound, NoPages}
use Rattle.page_alloc.specs.Pages.{PageList, Whole, IsNobodys, all_from, with_pages, changed, index_of, is_conventional, conventional}
use Rattle.page_alloc.specs.Fit.{fit}
use Rattle.page_alloc.specs.Calls.{allocation, given, is_request, may_be_given, owns, freeing, is_same_owner}
use Rattle.page_alloc.proofs.PageLemmas.{Passes, all_from_tells, and_true, length-with_pages}
use Rattle.page_alloc.proofs.FitLemmas.{fit_inside}

module _ (pages : List Page) (i n : ℕ) (page : Page) (inside : i + n ≤ length pages) where
  front_long : length (take i pages ++ replicate n page) ≡ i + n
  front_long = length-append (take i pages) (replicate n page) ∙ ap (λ k. k + length (replicate n page)) (length-take-le i pages (omega arith)) ∙ ap (λ k. i + k) (length-replicate n page)

  -- a page before the change, in it, and behind it
  pub page_before : (k : ℕ) (d : Page) → k < i → get_or (with_pages pages i n page) k d ≡ get_or pages k d
  unfolding with_pages
  page_before k d h =
      get_or_append_left (take i pages ++ replicate n page) (drop (i + n) pages) d k (omega (arith, front_long))
      ∙ get_or_append_left (take i pages) (replicate n page) d k (omega (arith, length-take-le i pages (omega arith)))
      ∙ get_or-take i pages k d h

  pub page_there : (k : ℕ) (d : Page) → i ≤ k → k < i + n → get_or (with_pages pages i n page) k d ≡ page
  unfolding with_pages
  page_there k d low high =
      get_or_append_left (take i pages ++ replicate n page) (drop (i + n) pages) d k (omega (arith, front_long))
      ∙ get_or-append_right (take i pages) (replicate n page) i k d (length-take-le i pages (omega arith)) low
      ∙ get_or-replicate n (k - i) page d (omega arith)

  pub page_behind : (k : ℕ) (d : Page) → i + n ≤ k → get_or (with_pages pages i n page) k d ≡ get_or pages k d
  unfolding with_pages
  page_behind k d h =
      let back : i + n + (k - (i + n)) ≡ k = omega arith in
      get_or-append_right (take i pages ++ replicate n page) (drop (i + n) pages) (i + n) k d front_long h
      ∙ get_or-drop (i + n) pages (k - (i + n)) d ∙ ap (λ j. get_or pages j d) back

-- so many pages from an address on are an owner's
abbrev pub has_owner : Owner → Page → Bool
has_owner owner page = is_same_owner page.owner owner

pub record Owns (m : PageList) (owner : Owner) (at n : ℕ) : Type 0 where
  pub low : m.base ≤ at
  pub each : Passes (has_owner owner) m.pages (index_of m at) n

pub owns_tells : (m : PageList) (owner : Owner) (at n : ℕ) → Decides (owns m owner at n) (Owns m owner at n)
unfolding owns
owns_tells m owner at n = (
  λ h. let p = and_true (nat_le m.base at) (all_from (has_owner owner) m.pages (index_of m at) n) h in
      let q : nat_le m.base at ≡ true = p.0 in
      record { low = grind (arith, nat_tests); each = (all_from_tells (has_owner owner) m.pages (index_of m at) n).0 p.1 },
  λ o. let l = o.low in let q : nat_le m.base at ≡ true = grind (arith, nat_tests) in rw q ((all_from_tells (has_owner owner) m.pages (index_of m at) n).1 o.each),
)

-- pages that became an owner's
pub owns_changed : (m : PageList) (at n : ℕ) (page : Page) → m.base ≤ at → index_of m at + n ≤ length m.pages → is_same_owner page.owner page.owner ≡ true → owns (changed m at n page) page.owner at n ≡ true
unfolding changed
owns_changed m at n page low inside same = (owns_tells (record { base = m.base; pages = with_pages m.pages (index_of m at) n page; key = min (m.key + 1) (2 ^ 64 - 1) }) page.owner at n).1 (record {
  low = low;
  each = record {
    inside = (let l = length-with_pages m.pages (index_of m at) n page inside in omega (arith, l));
    each = λ k d from to. ap (λ (p : Page). is_same_owner p.owner page.owner) (page_there m.pages (index_of m at) n page inside k d from to) ∙ same;
  };
})

-- pages of which none became another's
pub owns_kept : (m : PageList) (owner : Owner) (p count at n : ℕ) (page : Page) → index_of m at + n ≤ length m.pages → (index_of m p + count ≤ index_of m at) ⊎ (index_of m at + n ≤ index_of m p)
    → owns m owner p count ≡ true → owns (changed m at n page) owner p count ≡ true
unfolding changed
owns_kept m owner p count at n page inside apart h =
    let o = (owns_tells m owner p count).0 h in
    (owns_tells (record { base = m.base; pages = with_pages m.pages (index_of m at) n page; key = min (m.key + 1) (2 ^ 64 - 1) }) owner p count).1 (record {
      low = o.low;
      each = record {
        inside = (let l = length-with_pages m.pages (index_of m at) n page inside in let i = o.each.inside in omega (arith, l, i));
        each = λ k d from to. ap (has_owner owner) (elim apart [
          | inl before ↦ page_before m.pages (index_of m at) n page inside k d (omega arith)
          | inr behind ↦ page_behind m.pages (index_of m at) n page inside k d (omega arith)
        ]) ∙ o.each.each k d from to;
      };
    })

-- what was given was conventional
pub record Given (m : PageList) (start n : ℕ) : Type 0 where
  pub low : m.base ≤ start
  pub there : m.base + 4096 * index_of m start ≡ start
  pub some : 0 < n
  pub each : Passes is_conventional m.pages (index_of m start) n

request_tells : (kind t pages : ℕ) → is_request kind t pages ≡ true → 0 < pages
unfolding is_request
request_tells kind t pages h =
    let p = and_true (nat_le kind 2) (nat_lt 0 pages && may_be_given t) h in
    let q : nat_lt 0 pages ≡ true = (and_true (nat_lt 0 pages) (may_be_given t) p.1).0 in
    grind (arith, nat_tests)

given_by : (m : PageList) (kind at pages start : ℕ) (o : Option ℕ) → 0 < pages → fit m kind at pages ≡ o → given m kind o ≡ Ok start → Given m start pages
given_by m kind at pages start None some e h = refused (kind == 2) h
  where
    refused : {X : Type 0} (b : Bool) → (if b then Err NotFound else Err NoPages) ≡ Ok start → X
    refused true g = absurd (cc)
    refused false g = absurd (cc)
given_by m kind at pages start (Some i) some e h =
    let s : m.base + 4096 * i ≡ start = cc in
    let index : i ≡ index_of m start = omega arith in
    record {
      low = omega arith;
      there = omega arith;
      some = some;
      each = subst (λ k. Passes is_conventional m.pages k pages) index (fit_inside m kind at pages i some e);
    }

pub is_given : (m : PageList) (kind t pages at start : ℕ) → allocation m kind t pages at ≡ Ok start → Given m start pages
unfolding allocation
is_given m kind t pages at start e = by (is_request kind t pages) refl e
  where
    by : (b : Bool) → is_request kind t pages ≡ b → (if b then given m kind (fit m kind at pages) else Err Invalid) ≡ Ok start → Given m start pages
    by true r h = given_by m kind at pages start (fit m kind at pages) (request_tells kind t pages r) refl h
    by false r h = absurd (cc)

-- a page of an owner's isn't conventional, so what is given is apart from what an owner has
clash : (owner : Owner) (page : Page) → is_same_owner Free owner ≡ false → IsNobodys page → is_conventional page ≡ true → has_owner owner page ≡ true → ⊥
clash owner page other nobodys conv owned =
    let seven : page.memory_type ≡ 7 = (Decides-eqb page.memory_type 7).0 conv in
    let free : is_same_owner page.owner owner ≡ is_same_owner Free owner = ap (λ (p : Page). is_same_owner p.owner owner) (nobodys seven) in
    let no_owner : is_same_owner page.owner owner ≡ false = free ∙ other in
    cc

pub given_apart : (m : PageList) (owner : Owner) (p count start n : ℕ) → Whole m → is_same_owner Free owner ≡ false → 0 < count → owns m owner p count ≡ true → Given m start n
    → (index_of m p + count ≤ index_of m start) ⊎ (index_of m start + n ≤ index_of m p)
given_apart m owner p count start n whole other some h g =
    let o = (owns_tells m owner p count).0 h in
    let more = g.some in
    let i = o.each.inside in
    let j = g.each.inside in
    elim (leb_tells (index_of m p + count) (index_of m start)) [
      | inl q ↦ inl q.1
      | inr q ↦ elim (leb_tells (index_of m start + n) (index_of m p)) [
        | inl r ↦ inr r.1
        | inr r ↦ absurd (let over = q.1 in let under = r.1 in elim (leb_tells (index_of m p) (index_of m start)) [
          | inl s ↦ (let low : index_of m p ≤ index_of m start = s.1 in
              clash owner (get_or m.pages (index_of m start) conventional) other (whole.free (index_of m start) conventional (omega arith)) (g.each.each (index_of m start) conventional (omega arith) (omega arith)) (o.each.each (index_of m start) conventional low over))
          | inr s ↦ (let low : index_of m start < index_of m p = s.1 in
              clash owner (get_or m.pages (index_of m p) conventional) other (whole.free (index_of m p) conventional (omega arith)) (g.each.each (index_of m p) conventional (omega arith) under) (o.each.each (index_of m p) conventional (omega arith) (omega arith)))
        ])
      ]
    ]

-- an owner's pages can be freed
pub free_owned : (m : PageList) (owner : Owner) (at n : ℕ) → at % 4096 ≡ 0 → 0 < n → owns m owner at n ≡ true → freeing m owner at n ≡ Ok tt
unfolding freeing
free_owned m owner at n even some owned =
    let p : (at % 4096 == 0) ≡ true = grind (arith, nat_tests) in
    let q : nat_lt 0 n ≡ true = grind (arith, nat_tests) in
    rw (p, q, owned) refl

-- what was freed was the owner's, and one page or more
pub freeing_owns : (m : PageList) (owner : Owner) (at n : ℕ) (done : Unit {0}) → freeing m owner at n ≡ Ok done → owns m owner at n ≡ true
unfolding freeing
freeing_owns m owner at n done e = by (at % 4096 == 0 && nat_lt 0 n) (owns m owner at n) refl e
  where
    by : (a b : Bool) → owns m owner at n ≡ b → (if a then (if b then Ok tt else Err NotFound) else Err Invalid) ≡ Ok done → owns m owner at n ≡ true
    by true true o h = o
    by true false o h = absurd (cc)
    by false b o h = absurd (cc)

pub freeing_some : (m : PageList) (owner : Owner) (at n : ℕ) (done : Unit {0}) → freeing m owner at n ≡ Ok done → 0 < n
unfolding freeing
freeing_some m owner at n done e = by (at % 4096 == 0 && nat_lt 0 n) refl e
  where
    by : (a : Bool) → (at % 4096 == 0 && nat_lt 0 n) ≡ a → (if a then (if owns m owner at n then Ok tt else Err NotFound) else Err Invalid) ≡ Ok done → 0 < n
    by true o h = let q : nat_lt 0 n ≡ true = (and_true (at % 4096 == 0) (nat_lt 0 n) o).1 in grind (arith, nat_tests)
    by false o h = absurd (cc)
