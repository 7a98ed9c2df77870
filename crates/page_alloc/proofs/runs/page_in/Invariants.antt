use Rattle.std.proofs.Common.{◌≡◌, drop}
use Rattle.std.specs.Prelude.{slice_get}
use Rattle.page_alloc.specs.Runs.{all_pages}
use Rattle.page_alloc.proofs.runs.page_in.Given as goal

abbrev pub invariant-loop-run : goal.invariant-loop-run
invariant-loop-run l = slice_get (all_pages (drop l.run-index l.runs)) l.left ≡ slice_get (all_pages l.runs) l.index
