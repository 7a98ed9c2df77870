-- The pages of runs.
use Rattle.std.proofs.Common.{◌≡◌, ℕ, zero, suc, ◌+◌, ◌-◌, ◌<◌, ◌≤◌, List, [], ◌∷◌, ◌++◌, length, replicate, take, drop, get_or, Some, refl, sym, ap, ◌∙◌, arith, length-append}
use Rattle.std.specs.Prelude.{slice_get}
use Rattle.std.proofs.lemmas.List.{at_drop_more, at_drop_all, drop-drop, drop_at, length-replicate, append_assoc, append-nil, take_more, take_all}
use Rattle.page_alloc.specs.declared.page.Page.{Page}
use Rattle.page_alloc.specs.declared.runs.Run.{Run}
use Rattle.page_alloc.specs.Runs.{all_pages, NoneEmpty}

-- the pages from a run on
pub pages_from : (runs : List Run) (i : ℕ) (d : Run) → i < length runs → all_pages (drop i runs) ≡ replicate (get_or runs i d).count (get_or runs i d).page ++ all_pages (drop (i + 1) runs)
unfolding all_pages
pages_from runs i d h = at_drop_more all_pages runs i d h

pub pages_end : (runs : List Run) (i : ℕ) → length runs ≤ i → all_pages (drop i runs) ≡ []
unfolding all_pages
pages_end runs i h = at_drop_all all_pages runs i h

pub in_first : (count left : ℕ) (page : Page) (rest : List Page) → left < count → slice_get (replicate count page ++ rest) left ≡ Some page
in_first zero left page rest h = absurd (omega arith)
in_first (suc count) zero page rest h = refl
in_first (suc count) (suc left) page rest h = in_first count left page rest (omega arith)

pub behind_first : (count left : ℕ) (page : Page) (rest : List Page) → count ≤ left → slice_get (replicate count page ++ rest) left ≡ slice_get rest (left - count)
behind_first zero left page rest h = ap (λ k. slice_get rest k) (omega arith)
behind_first (suc count) zero page rest h = absurd (omega arith)
behind_first (suc count) (suc left) page rest h = behind_first count left page rest (omega arith) ∙ ap (λ k. slice_get rest k) (omega arith)

pub page_here : (runs : List Run) (i left : ℕ) (d : Run) → i < length runs → left < (get_or runs i d).count → slice_get (all_pages (drop i runs)) left ≡ Some (get_or runs i d).page
page_here runs i left d h l = rw (pages_from runs i d h) (in_first (get_or runs i d).count left (get_or runs i d).page (all_pages (drop (i + 1) runs)) l)

pub page_later : (runs : List Run) (i left n : ℕ) (d : Run) → i < length runs → n ≡ (get_or runs i d).count → n ≤ left → slice_get (all_pages (drop i runs)) left ≡ slice_get (all_pages (drop (i + 1) runs)) (left - n)
page_later runs i left n d h e l = rw (pages_from runs i d h, e) (behind_first (get_or runs i d).count left (get_or runs i d).page (all_pages (drop (i + 1) runs)) (omega arith))

-- the pages behind a run, where those before it are dropped
pub front_more : (runs : List Run) (pages : List Page) (i end n : ℕ) (d : Run) → i < length runs → n ≡ (get_or runs i d).count → drop end pages ≡ all_pages (drop i runs) → drop (end + n) pages ≡ all_pages (drop (i + 1) runs)
front_more runs pages i end n d h e front =
    sym (drop-drop n end pages) ∙ ap (λ ps. drop n ps) (front ∙ pages_from runs i d h)
    ∙ drop_at (replicate (get_or runs i d).count (get_or runs i d).page) (all_pages (drop (i + 1) runs)) n (length-replicate (get_or runs i d).count (get_or runs i d).page ∙ sym e)

-- no run is empty
pub not_empty : (runs : List Run) (i : ℕ) (d : Run) → NoneEmpty runs → i < length runs → 0 < (get_or runs i d).count
not_empty [] i d all h = absurd (omega arith)
not_empty (run ∷ runs) zero d all h = all.0
not_empty (run ∷ runs) (suc i) d all h = not_empty runs i d all.1 (omega arith)

pub pages-append : (xs ys : List Run) → all_pages (xs ++ ys) ≡ all_pages xs ++ all_pages ys
unfolding all_pages
pages-append [] ys = refl
pages-append (run ∷ xs) ys = ap (λ ps. replicate run.count run.page ++ ps) (pages-append xs ys) ∙ sym (append_assoc (replicate run.count run.page) (all_pages xs) (all_pages ys))

pub one_run : (run : Run) → all_pages (run ∷ []) ≡ replicate run.count run.page
unfolding all_pages
one_run run = append-nil (replicate run.count run.page)

-- a run more before a place
pub before_more : (runs : List Run) (i : ℕ) (d : Run) → i < length runs → length (all_pages (take (i + 1) runs)) ≡ length (all_pages (take i runs)) + (get_or runs i d).count
before_more runs i d h =
    ap (λ rs. length (all_pages rs)) (take_more runs i d h) ∙ ap length (pages-append (take i runs) (get_or runs i d ∷ []))
    ∙ length-append (all_pages (take i runs)) (all_pages (get_or runs i d ∷ []))
    ∙ ap (λ n. length (all_pages (take i runs)) + n) (ap length (one_run (get_or runs i d)) ∙ length-replicate (get_or runs i d).count (get_or runs i d).page)

pub before_all : (runs : List Run) (i : ℕ) → length runs ≤ i → all_pages (take i runs) ≡ all_pages runs
before_all runs i h = ap all_pages (take_all i runs h)

pub left_more : (runs : List Run) (i left n index : ℕ) (d : Run) → i < length runs → n ≡ (get_or runs i d).count → n ≤ left
    → length (all_pages (take i runs)) + left ≡ index → length (all_pages (take (i + 1) runs)) + (left - n) ≡ index
left_more runs i left n index d h e l so_far = let more = before_more runs i d h in omega (arith, more)

pub front_at : (runs : List Run) (pages : List Page) (i end n : ℕ) (d : Run) → i < length runs → n ≡ (get_or runs i d).count → drop end pages ≡ all_pages (drop i runs)
    → drop end pages ≡ replicate n (get_or runs i d).page ++ all_pages (drop (i + 1) runs)
front_at runs pages i end n d h e front = front ∙ pages_from runs i d h ∙ ap (λ k. replicate k (get_or runs i d).page ++ all_pages (drop (i + 1) runs)) (sym e)
