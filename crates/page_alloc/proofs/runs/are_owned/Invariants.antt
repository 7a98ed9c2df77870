use Rattle.std.proofs.Common.{◌≡◌, ◌<◌, ◌≤◌, ℕ, drop, length, get_or, true}
use Rattle.page_alloc.specs.declared.page.Page.{Page}
use Rattle.page_alloc.specs.Runs.{all_pages}
use Rattle.page_alloc.specs.Calls.{is_same_owner}
use Rattle.page_alloc.proofs.runs.are_owned.Given as goal

abbrev pub invariant-loop-run : goal.invariant-loop-run
invariant-loop-run l = record {
  front : drop l.end (all_pages l.runs) ≡ all_pages (drop l.run-index l.runs);
  inside : l.end ≤ length (all_pages l.runs);
  seen : (k : ℕ) (d : Page) → l.index ≤ k → k < l.stop → k < l.end → is_same_owner (get_or (all_pages l.runs) k d).owner l.owner ≡ true;
}
