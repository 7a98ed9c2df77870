use Rattle.std.proofs.Common.{◌≡◌, ◌+◌, length, take}
use Rattle.page_alloc.specs.Runs.{all_pages}
use Rattle.page_alloc.proofs.runs.place_of.Given as goal

abbrev pub invariant-loop-place : goal.invariant-loop-place
invariant-loop-place l = length (all_pages (take l.place l.runs)) + l.left ≡ l.index
