-- Whose pages are whose behind a call.
use Rattle.std.proofs.Common.{◌≡◌, ◌⊎◌, ℕ, zero, suc, ◌+◌, ◌*◌, ◌-◌, ◌%◌, ◌≤◌, ◌<◌, Bool, true, false, List, [], ◌∷◌, ◌++◌, length, take, drop, replicate, refl, sym, ap, subst, ◌∙◌, arith, Some, None, append_assoc, length-append, length-drop}
use Rattle.std.specs.Prelude.{slice_get, nat_le, nat_lt, ◌==◌, ◌&&◌, Option, Result, Ok, Err, if◌then◌else◌}
use Rattle.std.specs.List.{All, list_all}
use Rattle.std.proofs.lemmas.Bool.Decides.{nat_tests}
use Rattle.std.proofs.lemmas.List.{length-replicate, length-take}
use Rattle.page_alloc.specs.declared.page.Owner.{Owner}
use Rattle.page_alloc.specs.declared.page.Owner.TheVariants.{Free, Firmware, Pages, Pool, Image}
use Rattle.page_alloc.specs.declared.page.Page.{Page}
use Rattle.page_alloc.specs.declared.page.PageRefusal.{PageRefusal}
use Rattle.page_alloc.specs.declared.page.PageRefusal.TheVariants as refusals
use Rattle.page_alloc.specs.Pages.{PageList, Whole, IsNobodys, page_at, index_of, is_conventional, conventional, all_from, with_pages, changed}
use Rattle.page_alloc.specs.Fit.{meets, is_fit, highest, fit}
use Rattle.page_alloc.specs.Calls.{may_be_given, is_request, given, allocation, after_allocation, is_same_owner, owns, freeing, after_freeing}
use Rattle.page_alloc.specs.Laws.{CallsLeaveOthers, OthersStay}
use Rattle.page_alloc.specs.Laws.PageCall.{Allocate, Release}
use Rattle.runtime_whole.specs.Guards.{is_guarded}
use Rattle.runtime_whole.proofs.ListLemmas.{inside, exists}

pub some_same : {X : Type 0} (x y : X) → Some x ≡ Some y → x ≡ y
some_same x y h = cc

abbrev pub answered : (E : Type 0) {X : Type 0} → X → Result X E
answered E x = Ok x

pub ok_same : (E : Type 0) {X : Type 0} (x y : X) → answered E x ≡ answered E y → x ≡ y
ok_same E x y h = cc

-- ---- pages at addresses

pub there_is : (m : PageList) (at : ℕ) (page : Page) → page_at m at ≡ Some page → (m.base ≤ at) × (slice_get m.pages (index_of m at) ≡ Some page)
unfolding page_at
there_is m at page e = by (nat_le m.base at) refl e
  where
    by : (b : Bool) → nat_le m.base at ≡ b → (if b then slice_get m.pages (index_of m at) else None) ≡ Some page → (m.base ≤ at) × (slice_get m.pages (index_of m at) ≡ Some page)
    by true d h = (grind (arith, nat_tests), h)
    by false d h = let bad : ⊥ = cc in absurd bad

pub it_is : (m : PageList) (at : ℕ) (page : Page) → m.base ≤ at → slice_get m.pages (index_of m at) ≡ Some page → page_at m at ≡ Some page
unfolding page_at
it_is m at page low e = let le : nat_le m.base at ≡ true = grind (arith, nat_tests) in rw le e

-- an address of RAM has a page
pub has_page : (m : PageList) (at : ℕ) → m.base ≤ at → at < m.base + 4096 * length m.pages → (page : Page) × (page_at m at ≡ Some page)
has_page m at low high = let x = exists m.pages (index_of m at) (omega (arith, low, high)) in (x.0, it_is m at x.0 low x.1)

-- an address in so many pages from one on, by their indices
pub record InRun (m : PageList) (start count at : ℕ) : Type 0 where
  pub from : index_of m start ≤ index_of m at
  pub to : index_of m at < index_of m start + count

pub in_run : (m : PageList) (start count at : ℕ) → m.base % 4096 ≡ 0 → start % 4096 ≡ 0 → m.base ≤ start → start ≤ at → at < start + 4096 * count → InRun m start count at
in_run m start count at even on low from to = record { from = omega (arith, from, low); to = omega (arith, even, on, low, from, to) }

-- ---- changes

pub changed_inside : (m : PageList) (start count at : ℕ) (old new : Page) → page_at m at ≡ Some old → InRun m start count at → page_at (changed m start count new) at ≡ Some new
unfolding changed with_pages
changed_inside m start count at old new e run =
    let t = there_is m at old e in
    let i = index_of m start in
    let list = append_assoc (take i m.pages) (replicate count new) (drop (i + count) m.pages) in
    it_is (changed m start count new) at new t.0 (ap (λ (pages : List Page). slice_get pages (index_of m at)) list ∙ inside m.pages (drop (i + count) m.pages) i count (index_of m at) new old t.1 run.from run.to)

pub changed_base : (m : PageList) (start count : ℕ) (new : Page) → (changed m start count new).base ≡ m.base
unfolding changed
changed_base m start count new = refl

pub changed_long : (m : PageList) (start count : ℕ) (new : Page) → index_of m start + count ≤ length m.pages → length (changed m start count new).pages ≡ length m.pages
unfolding changed with_pages
changed_long m start count new l =
    let i = index_of m start in
    let a = length-append (take i m.pages ++ replicate count new) (drop (i + count) m.pages) in
    let b = length-append (take i m.pages) (replicate count new) in
    let c = length-take i m.pages in
    let d = length-replicate count new in
    let e = length-drop (i + count) m.pages in
    omega (arith, a, b, c, d, e, l)

pub changed_outside : OthersStay → (m : PageList) (start count at : ℕ) (old new : Page) → index_of m start + count ≤ length m.pages → (index_of m at < index_of m start) ⊎ (index_of m start + count ≤ index_of m at) → page_at m at ≡ Some old → page_at (changed m start count new) at ≡ Some old
unfolding changed
changed_outside law m start count at old new l apart e =
    let t = there_is m at old e in
    it_is (changed m start count new) at old t.0 (law m start count (index_of m at) new l apart ∙ t.1)

-- ---- guarded pages

get_all : {X : Type 0} (P : X → Type 0) (xs : List X) (k : ℕ) (x : X) → All P xs → slice_get xs k ≡ Some x → P x
get_all P [] k x all e = let bad : ⊥ = cc in absurd bad
get_all P (y ∷ ys) zero x all e = subst P (some_same y x e) (all 0 y (omega arith))
get_all P (y ∷ ys) (suc k) x all e = get_all P ys k x (λ i d l. all (suc i) d (omega (arith, l))) e

nobodys : (page : Page) → IsNobodys page → is_guarded page.owner ≡ true → (b : Bool) → is_conventional page ≡ b → b ≡ false
nobodys page is g true e =
    let seven : page.memory_type ≡ 7 = grind (arith, nat_tests) in
    let free : is_guarded Free ≡ true = subst (λ (p : Page). is_guarded p.owner ≡ true) (is seven) g in
    let bad : ⊥ = cc in absurd bad
nobodys page is g false e = refl

-- no guarded page is conventional
pub not_conventional : (m : PageList) (at : ℕ) (page : Page) → Whole m → page_at m at ≡ Some page → is_guarded page.owner ≡ true → is_conventional page ≡ false
not_conventional m at page whole e g =
    let is : IsNobodys page = get_all IsNobodys m.pages (index_of m at) page whole.free (there_is m at page e).1 in
    nobodys page is g (is_conventional page) refl

-- an owner from whose pages a guest's call may take
abbrev pub Takes : Owner → Type 0
Takes owner = is_guarded owner ≡ false

pub owners_differ : (owner other : Owner) → is_guarded owner ≡ true → is_guarded other ≡ false → is_same_owner owner other ≡ false
owners_differ Firmware Free g h = refl
owners_differ Firmware Pages g h = refl
owners_differ Firmware Pool g h = refl
owners_differ Image Free g h = refl
owners_differ Image Pages g h = refl
owners_differ Image Pool g h = refl
owners_differ Free other g h = let bad : ⊥ = cc in absurd bad
owners_differ Pages other g h = let bad : ⊥ = cc in absurd bad
owners_differ Pool other g h = let bad : ⊥ = cc in absurd bad
owners_differ owner Firmware g h = let bad : ⊥ = cc in absurd bad
owners_differ owner Image g h = let bad : ⊥ = cc in absurd bad

pub unlike : (a b : Page) → Some a ≡ Some b → is_guarded a.owner ≡ true → is_guarded b.owner ≡ false → ⊥
unlike a b e g h =
    let same : a ≡ b = some_same a b e in
    let bad : is_guarded b.owner ≡ true = subst (λ (p : Page). is_guarded p.owner ≡ true) same g in
    cc

-- ---- pages that are given

-- whose allocation it is doesn't matter to others
pub given_stay : CallsLeaveOthers → (m : PageList) (owner : Owner) (kind t count at start x : ℕ) (page : Page) → allocation m kind t count at ≡ Ok start → page_at m x ≡ Some page → is_conventional page ≡ false
    → page_at (after_allocation (Ok start) m owner t count) x ≡ Some page
given_stay law m owner kind t count at start x page e p free = subst (λ (r : Result ℕ PageRefusal). page_at (after_allocation r m owner t count) x ≡ Some page) e (law m (Allocate owner kind t count at) x page p free)

-- no guarded page is given
pub given_free : CallsLeaveOthers → (m : PageList) (kind t count at start x : ℕ) (page : Page) → Whole m → allocation m kind t count at ≡ Ok start → page_at m x ≡ Some page → is_guarded page.owner ≡ true → InRun m start count x → ⊥
given_free law m kind t count at start x page whole e p g run =
    let free = not_conventional m x page whole p g in
    let stays = given_stay law m Pages kind t count at start x page e p free in
    let became = changed_inside m start count x page (record { memory_type = t; owner = Pages }) p run in
    unlike page (record { memory_type = t; owner = Pages }) (sym stays ∙ became) g refl

-- pages that are given lie in RAM
pub record Fits (m : PageList) (start count : ℕ) : Type 0 where
  pub some : 0 < count
  pub low : m.base ≤ start
  pub on_page : (start - m.base) % 4096 ≡ 0
  pub inside : index_of m start + count ≤ length m.pages

fits_by : (test : Page → Bool) (pages : List Page) (start count : ℕ) → all_from test pages start count ≡ true → start + count ≤ length pages
unfolding all_from
fits_by test pages start count h = by (nat_le (start + count) (length pages)) refl h
  where
    by : (b : Bool) → nat_le (start + count) (length pages) ≡ b → (b && list_all test (take count (drop start pages))) ≡ true → start + count ≤ length pages
    by true d e = grind (arith, nat_tests)
    by false d e = let bad : ⊥ = cc in absurd bad

highest_passes : (test : ℕ → Bool) (n k : ℕ) → highest test n ≡ Some k → test k ≡ true
unfolding highest
highest_passes test zero k e = let bad : ⊥ = cc in absurd bad
highest_passes test (suc n) k e = by (test n) refl e (highest_passes test n k)
  where
    by : (b : Bool) → test n ≡ b → (if b then Some n else highest test n) ≡ Some k → (highest test n ≡ Some k → test k ≡ true) → test k ≡ true
    by true d h rest = subst (λ (x : ℕ). test x ≡ true) (some_same n k h) d
    by false d h rest = rest h

fit_inside : (m : PageList) (kind at count k : ℕ) → fit m kind at count ≡ Some k → k + count ≤ length m.pages
unfolding fit is_fit
fit_inside m kind at count k e = by (all_from is_conventional m.pages k count) refl (highest_passes (is_fit m kind at count) (length m.pages) k e)
  where
    by : (b : Bool) → all_from is_conventional m.pages k count ≡ b → (b && meets m.base kind at count k) ≡ true → k + count ≤ length m.pages
    by true d h = fits_by is_conventional m.pages k count d
    by false d h = let bad : ⊥ = cc in absurd bad

given_by : (m : PageList) (kind at count start : ℕ) (found : Option ℕ) → 0 < count → fit m kind at count ≡ found → given m kind found ≡ Ok start → Fits m start count
given_by m kind at count start (Some k) some e h =
    let is : m.base + 4096 * k ≡ start = ok_same PageRefusal (m.base + 4096 * k) start h in
    let inside = fit_inside m kind at count k e in
    record { some = some; low = omega (arith, is); on_page = omega (arith, is); inside = omega (arith, is, inside) }
given_by m kind at count start None some e h = by (kind == 2) h
  where
    by : (b : Bool) → (if b then Err refusals.NotFound else Err refusals.NoPages) ≡ Ok start → Fits m start count
    by true d = let bad : ⊥ = cc in absurd bad
    by false d = let bad : ⊥ = cc in absurd bad

asked_some : (kind t count : ℕ) → is_request kind t count ≡ true → 0 < count
unfolding is_request
asked_some kind t count h = by (nat_le kind 2) (nat_lt 0 count) refl h
  where
    by : (a b : Bool) → nat_lt 0 count ≡ b → (a && (b && may_be_given t)) ≡ true → 0 < count
    by true true d e = grind (arith, nat_tests)
    by true false d e = let bad : ⊥ = cc in absurd bad
    by false b d e = let bad : ⊥ = cc in absurd bad

pub given_fits : (m : PageList) (kind t count at start : ℕ) → allocation m kind t count at ≡ Ok start → Fits m start count
unfolding allocation
given_fits m kind t count at start e = by (is_request kind t count) refl e
  where
    by : (b : Bool) → is_request kind t count ≡ b → (if b then given m kind (fit m kind at count) else Err refusals.Invalid) ≡ Ok start → Fits m start count
    by true d h = given_by m kind at count start (fit m kind at count) (asked_some kind t count d) refl h
    by false d h = let bad : ⊥ = cc in absurd bad

-- ---- pages that are taken back

pub freed_stay : CallsLeaveOthers → (m : PageList) (owner : Owner) (at count x : ℕ) (page : Page) → freeing m owner at count ≡ Ok tt → page_at m x ≡ Some page → is_same_owner page.owner owner ≡ false
    → page_at (changed m at count conventional) x ≡ Some page
freed_stay law m owner at count x page e p other = subst (λ (r : Result (Unit {0}) PageRefusal). page_at (after_freeing r m at count) x ≡ Some page) e (law m (Release owner at count) x page p other)

-- no guarded page of another owner is taken back
pub freed_apart : CallsLeaveOthers → (m : PageList) (owner : Owner) (at count x : ℕ) (page : Page) → freeing m owner at count ≡ Ok tt → page_at m x ≡ Some page → is_guarded page.owner ≡ true → is_same_owner page.owner owner ≡ false → InRun m at count x → ⊥
freed_apart law m owner at count x page e p g other run = unlike page conventional (sym (freed_stay law m owner at count x page e p other) ∙ changed_inside m at count x page conventional p run) g refl

pub owned_fit : (m : PageList) (owner : Owner) (at count : ℕ) → owns m owner at count ≡ true → index_of m at + count ≤ length m.pages
unfolding owns
owned_fit m owner at count h = by (nat_le m.base at) h
  where
    by : (b : Bool) → (b && all_from (λ page. is_same_owner page.owner owner) m.pages (index_of m at) count) ≡ true → index_of m at + count ≤ length m.pages
    by true e = fits_by (λ page. is_same_owner page.owner owner) m.pages (index_of m at) count e
    by false e = let bad : ⊥ = cc in absurd bad

abbrev granted : Result (Unit {0}) PageRefusal
granted = Ok tt

pub freed_owned : (m : PageList) (owner : Owner) (at count : ℕ) → freeing m owner at count ≡ Ok tt → owns m owner at count ≡ true
unfolding freeing
freed_owned m owner at count h = by (at % 4096 == 0 && nat_lt 0 count) (owns m owner at count) h
  where
    by : (a b : Bool) → (if a then (if b then granted else Err refusals.NotFound) else Err refusals.Invalid) ≡ granted → b ≡ true
    by true true e = refl
    by true false e = let bad : ⊥ = cc in absurd bad
    by false b e = let bad : ⊥ = cc in absurd bad
