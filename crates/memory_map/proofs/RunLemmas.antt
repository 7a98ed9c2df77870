-- The pages of the runs from a place on.
use Rattle.std.proofs.Common.{◌≡◌, ℕ, zero, suc, ◌+◌, ◌<◌, ◌≤◌, List, [], ◌∷◌, ◌++◌, length, replicate, drop, get_or, arith}
use Rattle.std.proofs.lemmas.List.{at_drop_more, at_drop_all}
use Rattle.page_alloc.specs.declared.page.Page.{Page}
use Rattle.page_alloc.specs.declared.runs.Run.{Run}
use Rattle.page_alloc.specs.Runs.{all_pages, NoneEmpty}

pub pages_from : (runs : List Run) (i : ℕ) (d : Run) → i < length runs → all_pages (drop i runs) ≡ replicate (get_or runs i d).count (get_or runs i d).page ++ all_pages (drop (i + 1) runs)
unfolding all_pages
pages_from runs i d h = at_drop_more all_pages runs i d h

pub pages_end : (runs : List Run) (i : ℕ) → length runs ≤ i → all_pages (drop i runs) ≡ []
unfolding all_pages
pages_end runs i h = at_drop_all all_pages runs i h

pub not_empty : (runs : List Run) (i : ℕ) (d : Run) → NoneEmpty runs → i < length runs → 0 < (get_or runs i d).count
not_empty [] i d all h = absurd (omega arith)
not_empty (run ∷ runs) zero d all h = all.0
not_empty (run ∷ runs) (suc i) d all h = not_empty runs i d all.1 (omega arith)

pub none_drop : (i : ℕ) (runs : List Run) → NoneEmpty runs → NoneEmpty (drop i runs)
none_drop zero runs all = all
none_drop (suc i) [] all = tt
none_drop (suc i) (run ∷ runs) all = none_drop i runs all.1
