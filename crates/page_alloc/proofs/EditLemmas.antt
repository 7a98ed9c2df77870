-- Runs that are parted, joined and replaced.
use Rattle.std.proofs.Common.{◌≡◌, ℕ, zero, suc, ◌+◌, ◌-◌, ◌<◌, ◌≤◌, List, [], ◌∷◌, ◌++◌, length, replicate, take, drop, get_or, sym, ap, ◌∙◌, arith, length-append, add-one}
use Rattle.std.specs.Prelude.{slice_set, insert, remove}
use Rattle.std.proofs.lemmas.List.{drop_more, take-append-drop, append_assoc, take_more, take_more_set, drop-set-lt, set_at, take_at, drop_at, length-replicate, replicate-append-replicate, length-take-le}
use Rattle.page_alloc.specs.declared.page.Page.{Page}
use Rattle.page_alloc.specs.declared.runs.Run.{Run}
use Rattle.page_alloc.specs.Runs.{all_pages, NoneEmpty}
use Rattle.page_alloc.specs.Pages.{with_pages}
use Rattle.page_alloc.proofs.RunLemmas.{pages-append, pages_from, before_more, not_empty}

-- runs that aren't empty
pub none_append : (xs ys : List Run) → NoneEmpty xs → NoneEmpty ys → NoneEmpty (xs ++ ys)
none_append [] ys p q = q
none_append (x ∷ xs) ys p q = (p.0, none_append xs ys p.1 q)

pub none_take : (i : ℕ) (xs : List Run) → NoneEmpty xs → NoneEmpty (take i xs)
none_take zero xs p = tt
none_take (suc i) [] p = tt
none_take (suc i) (x ∷ xs) p = (p.0, none_take i xs p.1)

pub none_drop : (i : ℕ) (xs : List Run) → NoneEmpty xs → NoneEmpty (drop i xs)
none_drop zero xs p = p
none_drop (suc i) [] p = tt
none_drop (suc i) (x ∷ xs) p = none_drop i xs p.1

-- the pages of the runs before a place and from it on
pub parts : (xs : List Run) (i : ℕ) → all_pages xs ≡ all_pages (take i xs) ++ all_pages (drop i xs)
parts xs i = sym (ap all_pages (take-append-drop i xs)) ∙ pages-append (take i xs) (drop i xs)

-- the last run before a place, where all pages before the place are known by their number
pub record LastRun (xs : List Run) (place start n : ℕ) (d : Run) : Type 0 where
  pub fits : n ≤ start
  pub some : NoneEmpty xs → 0 < n
  pub front : length (all_pages (take (place - 1) xs)) ≡ start - n
  pub pages : drop (start - n) (all_pages xs) ≡ replicate (get_or xs (place - 1) d).count (get_or xs (place - 1) d).page ++ all_pages (drop (place - 1 + 1) xs)

pub last_run : (xs : List Run) (place start n : ℕ) (d : Run) → 0 < place → place ≤ length xs → length (all_pages (take place xs)) ≡ start → n ≡ (get_or xs (place - 1) d).count → LastRun xs place start n d
last_run xs place start n d low high front e =
    let inside : place - 1 < length xs = omega arith in
    let there : place - 1 + 1 ≡ place = omega arith in
    let more = before_more xs (place - 1) d inside in
    let same : length (all_pages (take (place - 1 + 1) xs)) ≡ start = ap (λ k. length (all_pages (take k xs))) there ∙ front in
    let before : length (all_pages (take (place - 1) xs)) ≡ start - n = omega (arith, more, same) in
    record {
      fits = omega (arith, more, same);
      some = λ all. rw e (not_empty xs (place - 1) d all inside);
      front = before;
      pages = ap (λ ps. drop (start - n) ps) (parts xs (place - 1)) ∙ drop_at (all_pages (take (place - 1) xs)) (all_pages (drop (place - 1) xs)) (start - n) before ∙ pages_from xs (place - 1) d inside;
    }

-- no more pages than all lie before a place, and none before the first
pub before_inside : (xs : List Run) (place : ℕ) → length (all_pages (take place xs)) ≤ length (all_pages xs)
before_inside xs place =
    let l = ap length (parts xs place) in
    omega (arith, l, length-append (all_pages (take place xs)) (all_pages (drop place xs)))

pub none_before : (xs : List Run) (place start : ℕ) → place ≤ 0 → length (all_pages (take place xs)) ≡ start → start ≡ 0
unfolding all_pages
none_before xs zero start low front = sym front
none_before xs (suc place) start low front = absurd (omega arith)

-- and from the run behind it on
pub around : (xs : List Run) (i : ℕ) (d : Run) → i < length xs
    → all_pages xs ≡ all_pages (take i xs) ++ (replicate (get_or xs i d).count (get_or xs i d).page ++ all_pages (drop (i + 1) xs))
around xs i d h = parts xs i ∙ ap (λ ps. all_pages (take i xs) ++ ps) (pages_from xs i d h)

-- a run is parted
pub parted_is : (xs : List Run) (i : ℕ) (a b : Run) → i < length xs → insert (slice_set xs i a) (i + 1) b ≡ take i xs ++ (a ∷ b ∷ drop (i + 1) xs)
parted_is xs i a b h =
    ap (λ ys. ys ++ b ∷ drop (i + 1) (slice_set xs i a)) (take_more_set xs i a h)
    ∙ ap (λ ys. (take i xs ++ a ∷ []) ++ b ∷ ys) (drop-set-lt (i + 1) xs i a (omega arith))
    ∙ append_assoc (take i xs) (a ∷ []) (b ∷ drop (i + 1) xs)

two_runs : (a b : Run) (ys : List Run) (c : ℕ) (page : Page) → a.count + b.count ≡ c → a.page ≡ page → b.page ≡ page → all_pages (a ∷ b ∷ ys) ≡ replicate c page ++ all_pages ys
unfolding all_pages
two_runs a b ys c page e p q =
    rw (p, q) (sym (append_assoc (replicate a.count page) (replicate b.count page) (all_pages ys))
    ∙ ap (λ ps. ps ++ all_pages ys) (replicate-append-replicate a.count b.count page ∙ ap (λ n. replicate n page) e))

pub parted_pages : (xs : List Run) (i : ℕ) (a b d : Run) → i < length xs → a.count + b.count ≡ (get_or xs i d).count → a.page ≡ (get_or xs i d).page → b.page ≡ (get_or xs i d).page
    → all_pages (take i xs ++ (a ∷ b ∷ drop (i + 1) xs)) ≡ all_pages xs
parted_pages xs i a b d h e p q =
    pages-append (take i xs) (a ∷ b ∷ drop (i + 1) xs)
    ∙ ap (λ ps. all_pages (take i xs) ++ ps) (two_runs a b (drop (i + 1) xs) (get_or xs i d).count (get_or xs i d).page e p q)
    ∙ sym (around xs i d h)

pub parted_none : (xs : List Run) (i : ℕ) (a b : Run) → NoneEmpty xs → 0 < a.count → 0 < b.count → NoneEmpty (take i xs ++ (a ∷ b ∷ drop (i + 1) xs))
parted_none xs i a b all p q = none_append (take i xs) (a ∷ b ∷ drop (i + 1) xs) (none_take i xs all) (p, (q, none_drop (i + 1) xs all))

-- two runs are joined
pub joined_is : (xs : List Run) (place : ℕ) (a d : Run) → 0 < place → place < length xs → slice_set (remove xs place) (place - 1) a ≡ take (place - 1) xs ++ (a ∷ drop (place + 1) xs)
joined_is xs place a d low high =
    let there : place - 1 + 1 ≡ place = omega arith in
    let front : take place xs ≡ take (place - 1) xs ++ get_or xs (place - 1) d ∷ [] = ap (λ n. take n xs) (sym there) ∙ take_more xs (place - 1) d (omega arith) in
    ap (λ ys. slice_set (ys ++ drop (suc place) xs) (place - 1) a) front
    ∙ ap (λ ys. slice_set ys (place - 1) a) (append_assoc (take (place - 1) xs) (get_or xs (place - 1) d ∷ []) (drop (suc place) xs))
    ∙ set_at (take (place - 1) xs) (get_or xs (place - 1) d) (drop (suc place) xs) a (place - 1) (length-take-le (place - 1) xs (omega arith))
    ∙ ap (λ n. take (place - 1) xs ++ (a ∷ drop n xs)) (sym (add-one place))

pub joined_pages : (xs : List Run) (place : ℕ) (a d : Run) → 0 < place → place < length xs
    → (get_or xs (place - 1) d).count + (get_or xs place d).count ≡ a.count → (get_or xs (place - 1) d).page ≡ a.page → (get_or xs place d).page ≡ a.page
    → all_pages (take (place - 1) xs ++ (a ∷ drop (place + 1) xs)) ≡ all_pages xs
unfolding all_pages
joined_pages xs place a d low high e p q =
    let there : place - 1 + 1 ≡ place = omega arith in
    let behind : drop (place - 1) xs ≡ get_or xs (place - 1) d ∷ get_or xs place d ∷ drop (place + 1) xs
    = drop_more xs (place - 1) d (omega arith) ∙ ap (λ n. get_or xs (place - 1) d ∷ drop n xs) there ∙ ap (λ ys. get_or xs (place - 1) d ∷ ys) (drop_more xs place d high) in
    pages-append (take (place - 1) xs) (a ∷ drop (place + 1) xs)
    ∙ ap (λ ps. all_pages (take (place - 1) xs) ++ ps) (sym (two_runs (get_or xs (place - 1) d) (get_or xs place d) (drop (place + 1) xs) a.count a.page e p q))
    ∙ ap (λ ys. all_pages (take (place - 1) xs) ++ all_pages ys) (sym behind)
    ∙ sym (parts xs (place - 1))

pub joined_none : (xs : List Run) (place : ℕ) (a : Run) → NoneEmpty xs → 0 < a.count → NoneEmpty (take (place - 1) xs ++ (a ∷ drop (place + 1) xs))
joined_none xs place a all p = none_append (take (place - 1) xs) (a ∷ drop (place + 1) xs) (none_take (place - 1) xs all) (p, none_drop (place + 1) xs all)

-- runs are replaced
pub replaced_is : (xs : List Run) (first last : ℕ) (a : Run) → first < last → first < length xs
    → take (first + 1) (slice_set xs first a) ++ drop last (slice_set xs first a) ≡ take first xs ++ (a ∷ drop last xs)
replaced_is xs first last a h l =
    ap (λ ys. ys ++ drop last (slice_set xs first a)) (take_more_set xs first a l)
    ∙ ap (λ ys. (take first xs ++ a ∷ []) ++ ys) (drop-set-lt last xs first a h)
    ∙ append_assoc (take first xs) (a ∷ []) (drop last xs)

pub replaced_pages : (xs : List Run) (first last index : ℕ) (a : Run) → length (all_pages (take first xs)) ≡ index → length (all_pages (take last xs)) ≡ index + a.count
    → all_pages (take first xs ++ (a ∷ drop last xs)) ≡ with_pages (all_pages xs) index a.count a.page
unfolding all_pages with_pages
replaced_pages xs first last index a f l =
    pages-append (take first xs) (a ∷ drop last xs)
    ∙ ap (λ ps. ps ++ (replicate a.count a.page ++ all_pages (drop last xs))) (sym (ap (λ ps. take index ps) (parts xs first) ∙ take_at (all_pages (take first xs)) (all_pages (drop first xs)) index f))
    ∙ ap (λ ps. take index (all_pages xs) ++ (replicate a.count a.page ++ ps)) (sym (ap (λ ps. drop (index + a.count) ps) (parts xs last) ∙ drop_at (all_pages (take last xs)) (all_pages (drop last xs)) (index + a.count) l))
    ∙ sym (append_assoc (take index (all_pages xs)) (replicate a.count a.page) (drop (index + a.count) (all_pages xs)))

pub replaced_none : (xs : List Run) (first last : ℕ) (a : Run) → NoneEmpty xs → 0 < a.count → NoneEmpty (take first xs ++ (a ∷ drop last xs))
replaced_none xs first last a all p = none_append (take first xs) (a ∷ drop last xs) (none_take first xs all) (p, none_drop last xs all)

-- the pages before a place grow with it
pub before_grows : (xs : List Run) (i j : ℕ) → i ≤ j → length (all_pages (take i xs)) ≤ length (all_pages (take j xs))
unfolding all_pages
before_grows xs zero j h = omega arith
before_grows [] (suc i) j h = omega arith
before_grows (x ∷ xs) (suc i) zero h = absurd (omega arith)
before_grows (x ∷ xs) (suc i) (suc j) h =
    let more = before_grows xs i j (omega arith) in
    omega (arith, length-append (replicate x.count x.page) (all_pages (take i xs)), length-append (replicate x.count x.page) (all_pages (take j xs)))

-- there are fewer runs than pages where one has two
pub few_runs : (xs : List Run) → NoneEmpty xs → length xs ≤ length (all_pages xs)
unfolding all_pages
few_runs [] all = omega arith
few_runs (x ∷ xs) all = let n = few_runs xs all.1 in let some = all.0 in omega (arith, length-append (replicate x.count x.page) (all_pages xs), length-replicate x.count x.page)

pub fewer_runs : (xs : List Run) (i : ℕ) (d : Run) → NoneEmpty xs → i < length xs → 1 < (get_or xs i d).count → length xs < length (all_pages xs)
unfolding all_pages
fewer_runs [] i d all h two = absurd (omega arith)
fewer_runs (x ∷ xs) zero d all h two = let n = few_runs xs all.1 in omega (arith, length-append (replicate x.count x.page) (all_pages xs), length-replicate x.count x.page)
fewer_runs (x ∷ xs) (suc i) d all h two = let n = fewer_runs xs i d all.1 (omega arith) two in let some = all.0 in omega (arith, length-append (replicate x.count x.page) (all_pages xs), length-replicate x.count x.page)
