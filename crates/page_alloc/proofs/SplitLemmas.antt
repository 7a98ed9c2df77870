-- What is left where a run is parted, joined or replaced.
use Rattle.std.proofs.Common.{◌≡◌, ◌≢◌, ℕ, ◌+◌, ◌-◌, ◌<◌, ◌≤◌, List, [], ◌∷◌, ◌++◌, length, take, drop, get_or, sym, ap, ◌∙◌, arith, length-append, subst}
use Rattle.std.specs.Prelude.{slice_set, insert, remove}
use Rattle.std.proofs.lemmas.Bool.Decides.{leb_tells}
use Rattle.std.proofs.Common.{inl, inr}
use Rattle.std.proofs.lemmas.List.{append_assoc, take_at, length-replicate, length-take-le, take-append-le, take-take, get_or_default}
use Rattle.page_alloc.specs.declared.page.Page.{Page}
use Rattle.page_alloc.specs.declared.runs.Run.{Run}
use Rattle.page_alloc.specs.Runs.{all_pages, NoneEmpty}
use Rattle.page_alloc.specs.Pages.{with_pages}
use Rattle.page_alloc.proofs.RunLemmas.{pages-append, one_run, not_empty, before_more}
use Rattle.page_alloc.proofs.EditLemmas.{parts, parted_is, parted_pages, parted_none, joined_is, joined_pages, joined_none, replaced_is, replaced_pages, replaced_none, before_grows, fewer_runs}

-- a run that is read at a place is the one there at any default
pub read : (xs : List Run) (i : ℕ) (run d : Run) → i < length xs → run ≡ get_or xs i run → run ≡ get_or xs i d
read xs i run d h e = e ∙ get_or_default xs i run d h

-- runs of the same pages of which one begins at an index
pub record Parted (xs ys : List Run) (index place : ℕ) : Type 0 where
  pub pages : all_pages ys ≡ all_pages xs
  pub none_empty : NoneEmpty ys
  pub begins : length (all_pages (take place ys)) ≡ index
  pub before : (i : ℕ) → length (all_pages (take i xs)) ≤ index → take i ys ≡ take i xs

module _ (xs : List Run) (place part index : ℕ) (run : Run) (inside : place < length xs) (some : 0 < part) (less : part < run.count)
    (is : run ≡ get_or xs place run) (all : NoneEmpty xs) (there : length (all_pages (take place xs)) + part ≡ index) where
  a : Run
  a = record { count = part; page = run.page }

  b : Run
  b = record { count = run.count - part; page = run.page }

  abbrev ys : List Run
  ys = take place xs ++ (record { count = part; page = run.page } ∷ record { count = run.count - part; page = run.page } ∷ drop (place + 1) xs)

  begins : length (all_pages (take (place + 1) ys)) ≡ index
  begins =
      let front : take (place + 1) ys ≡ take place xs ++ (record { count = part; page = run.page } ∷ [])
      = ap (λ zs. take (place + 1) zs) (sym (append_assoc (take place xs) (record { count = part; page = run.page } ∷ []) (record { count = run.count - part; page = run.page } ∷ drop (place + 1) xs)))
      ∙ take_at (take place xs ++ (record { count = part; page = run.page } ∷ [])) (record { count = run.count - part; page = run.page } ∷ drop (place + 1) xs) (place + 1)
      (length-append (take place xs) (record { count = part; page = run.page } ∷ []) ∙ ap (λ n. n + 1) (length-take-le place xs (omega arith))) in
      ap (λ zs. length (all_pages zs)) front
      ∙ ap length (pages-append (take place xs) (record { count = part; page = run.page } ∷ []))
      ∙ length-append (all_pages (take place xs)) (all_pages (record { count = part; page = run.page } ∷ []))
      ∙ ap (λ n. length (all_pages (take place xs)) + n) (ap length (one_run (record { count = part; page = run.page })) ∙ length-replicate part run.page)
      ∙ there

  before : (i : ℕ) → length (all_pages (take i xs)) ≤ index → take i ys ≡ take i xs
  before i low =
      let more : length (all_pages (take (place + 1) xs)) ≡ length (all_pages (take place xs)) + (get_or xs place run).count = before_more xs place run inside in
      let same : run.count ≡ (get_or xs place run).count = ap (λ r. r.count) is in
      let here : i ≤ place = elim (leb_tells i place) [
        | inl p ↦ p.1
        | inr p ↦ absurd (let over : place < i = p.1 in let grows = before_grows xs (place + 1) i (omega arith) in omega (arith, grows, more))
      ] in
      take-append-le i (take place xs) (record { count = part; page = run.page } ∷ record { count = run.count - part; page = run.page } ∷ drop (place + 1) xs) (omega (arith, length-take-le place xs (omega arith)))
      ∙ take-take i place xs here

  parted : Parted xs ys index (place + 1)
  parted = record {
    pages = parted_pages xs place (record { count = part; page = run.page }) (record { count = run.count - part; page = run.page }) run inside
        (let same : run.count ≡ (get_or xs place run).count = ap (λ r. r.count) is in omega arith) (ap (λ r. r.page) is) (ap (λ r. r.page) is);
    none_empty = parted_none xs place (record { count = part; page = run.page }) (record { count = run.count - part; page = run.page }) all some (omega arith);
    begins = begins;
    before = before;
  }

pub is_parted : (xs zs : List Run) (place part index : ℕ) (run run' : Run) → place < length xs → 0 < part → part < run.count → run ≡ get_or xs place run → run' ≡ get_or xs place run' → NoneEmpty xs
    → length (all_pages (take place xs)) + part ≡ index
    → zs ≡ insert (slice_set xs place (record { count = part; page = run'.page })) (place + 1) (record { count = run.count - part; page = run.page })
    → Parted xs zs index (place + 1)
is_parted xs zs place part index run run' inside some less is is' all there e =
    let same : run' ≡ run = read xs place run' run inside is' ∙ sym is in
    subst (λ ls. Parted xs ls index (place + 1))
    (sym (e ∙ ap (λ r. insert (slice_set xs place (record { count = part; page = r.page })) (place + 1) (record { count = run.count - part; page = run.page })) same
    ∙ parted_is xs place (record { count = part; page = run.page }) (record { count = run.count - part; page = run.page }) inside))
    (parted xs place part index run inside some less is all there)

pub room_to_part : (xs : List Run) (place part : ℕ) (run : Run) → NoneEmpty xs → place < length xs → 0 < part → part < run.count → run ≡ get_or xs place run → length xs < length (all_pages xs)
room_to_part xs place part run all inside some less is =
    let same : run.count ≡ (get_or xs place run).count = ap (λ r. r.count) is in
    fewer_runs xs place run all inside (omega arith)

-- runs of the same pages
pub record Joined (xs ys : List Run) : Type 0 where
  pub pages : all_pages ys ≡ all_pages xs
  pub none_empty : NoneEmpty ys

pub is_joined : (xs zs : List Run) (place : ℕ) (before run : Run) → 0 < place → place < length xs → before ≡ get_or xs (place - 1) before → run ≡ get_or xs place run → before.page ≡ run.page → NoneEmpty xs
    → zs ≡ slice_set (remove xs place) (place - 1) (record { count = before.count + run.count; page = run.page }) → Joined xs zs
is_joined xs zs place before run low high is_before is same all e =
    let b : before ≡ get_or xs (place - 1) run = read xs (place - 1) before run (omega arith) is_before in
    let some : 0 < (get_or xs place run).count = not_empty xs place run all high in
    let c : run.count ≡ (get_or xs place run).count = ap (λ r. r.count) is in
    subst (λ ls. Joined xs ls) (sym (e ∙ joined_is xs place (record { count = before.count + run.count; page = run.page }) run low high)) (record {
      pages = joined_pages xs place (record { count = before.count + run.count; page = run.page }) run low high
          (let d : before.count ≡ (get_or xs (place - 1) run).count = ap (λ r. r.count) b in omega arith) (sym (ap (λ r. r.page) b) ∙ same) (sym (ap (λ r. r.page) is));
      none_empty = joined_none xs place (record { count = before.count + run.count; page = run.page }) all (omega arith);
    })

-- two runs in a row have no more pages than all
pub two_fit : (xs : List Run) (place : ℕ) (before run : Run) → 0 < place → place < length xs → before ≡ get_or xs (place - 1) before → run ≡ get_or xs place run → before.count + run.count ≤ length (all_pages xs)
two_fit xs place before run low high is_before is =
    let b : before.count ≡ (get_or xs (place - 1) run).count = ap (λ r. r.count) (read xs (place - 1) before run (omega arith) is_before) in
    let c : run.count ≡ (get_or xs place run).count = ap (λ r. r.count) is in
    let there : place - 1 + 1 ≡ place = omega arith in
    let m = before_more xs (place - 1) run (omega arith) in
    let m' : length (all_pages (take place xs)) ≡ length (all_pages (take (place - 1) xs)) + (get_or xs (place - 1) run).count = ap (λ n. length (all_pages (take n xs))) (sym there) ∙ m in
    let n = before_more xs place run high in
    let whole : length (all_pages xs) ≡ length (all_pages (take (place + 1) xs)) + length (all_pages (drop (place + 1) xs))
    = ap length (parts xs (place + 1)) ∙ length-append (all_pages (take (place + 1) xs)) (all_pages (drop (place + 1) xs)) in
    omega (arith, m', n, whole)

-- the place behind comes later
pub comes_later : (xs : List Run) (first last index count : ℕ) → length (all_pages (take first xs)) ≡ index → length (all_pages (take last xs)) ≡ index + count → 0 < count → first < last
comes_later xs first last index count f l some = elim (leb_tells last first) [
  | inl p ↦ absurd (let le : last ≤ first = p.1 in let grows = before_grows xs last first le in omega (arith, grows, f, l))
  | inr p ↦ p.1
]

-- runs of the pages of which some became the same
pub record Filled (xs zs : List Run) (index count : ℕ) (page : Page) : Type 0 where
  pub pages : all_pages zs ≡ with_pages (all_pages xs) index count page
  pub none_empty : NoneEmpty zs

pub is_filled : (xs zs : List Run) (first last index count : ℕ) (page : Page) → length (all_pages (take first xs)) ≡ index → length (all_pages (take last xs)) ≡ index + count → 0 < count → first < length xs → NoneEmpty xs
    → zs ≡ take (first + 1) (slice_set xs first (record { count = count; page = page })) ++ drop last (slice_set xs first (record { count = count; page = page })) → Filled xs zs index count page
is_filled xs zs first last index count page f l some inside all e =
    subst (λ ls. Filled xs ls index count page) (sym (e ∙ replaced_is xs first last (record { count = count; page = page }) (comes_later xs first last index count f l some) inside)) (record {
      pages = replaced_pages xs first last index (record { count = count; page = page }) f l;
      none_empty = replaced_none xs first last (record { count = count; page = page }) all some;
    })

-- where a place and a part of its run are known
pub record Placed (xs : List Run) (index place part : ℕ) : Type 0 where
  pub there : length (all_pages (take place xs)) + part ≡ index
  pub inside : place < length xs
  pub less : (d : Run) → part < (get_or xs place d).count

pub placed : (xs s : List Run) (index place part : ℕ) → s ≡ xs → length (all_pages (take place s)) + part ≡ index → (0 < part → (place < length s) × ((d : Run) → part < (get_or s place d).count)) → part ≢ 0 → Placed xs index place part
placed xs s index place part e there inner some =
    let p = inner (omega arith) in
    subst (λ ls. Placed ls index place part) e (record { there = there; inside = p.0; less = p.1 })

pub less_than_run : (xs : List Run) (index place part : ℕ) (run : Run) → Placed xs index place part → run ≡ get_or xs place run → part < run.count
less_than_run xs index place part run p is = let less = p.less run in let same : run.count ≡ (get_or xs place run).count = ap (λ r. r.count) is in omega arith

-- two partings, and then the runs between them replaced
module _ (xs ys zs : List Run) (first last index count n : ℕ) (same : n ≡ count) (some : 0 < count) (first_pages : all_pages ys ≡ all_pages xs) (last_pages : all_pages zs ≡ all_pages ys)
    (first_begins : length (all_pages (take first ys)) ≡ index) (kept : (i : ℕ) → length (all_pages (take i ys)) ≤ index + n → take i zs ≡ take i ys)
    (last_begins : length (all_pages (take last zs)) ≡ index + n) where
  first_stays : length (all_pages (take first zs)) ≡ index
  first_stays = ap (λ rs. length (all_pages rs)) (kept first (omega arith)) ∙ first_begins

  pub last_later : first < last
  last_later = comes_later zs first last index count first_stays (last_begins ∙ ap (λ k. index + k) same) some

  pub filled_by : (ws : List Run) (page : Page) → NoneEmpty zs → last ≤ length zs
      → ws ≡ take (first + 1) (slice_set zs first (record { count = count; page = page })) ++ drop last (slice_set zs first (record { count = count; page = page })) → Filled xs ws index count page
  filled_by ws page all inside e =
      let later = last_later in
      let f = is_filled zs ws first last index count page first_stays (last_begins ∙ ap (λ k. index + k) same) some (omega arith) all e in
      record { pages = f.pages ∙ ap (λ ps. with_pages ps index count page) (last_pages ∙ first_pages); none_empty = f.none_empty }
