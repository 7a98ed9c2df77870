use Rattle.std.proofs.Common.{◌≡◌, ◌+◌, ◌<◌, length, take}
use Rattle.page_alloc.specs.Runs.{all_pages}
use Rattle.page_alloc.proofs.ScanLemmas.{Searched}
use Rattle.page_alloc.proofs.runs.highest_room.Given as goal

abbrev pub invariant-loop-place : goal.invariant-loop-place
invariant-loop-place l = record {
  searched : Searched (all_pages l.runs) l.count l.lowest l.limit l.start l.top;
  short : l.top < l.start + l.count;
  front : length (all_pages (take l.place l.runs)) ≡ l.start;
}
