use Rattle.address_view.specs.Windows.{see}
use Rattle.std.proofs.Common.{◌≡◌, ◌<◌, ◌^◌, length}
use Rattle.guest_memory.specs.Lists.{count_true}
use Rattle.address_view.specs.Stored.{AllSeen, marked}
use Rattle.address_view.proofs.store.count_marks.Given as goal

abbrev pub invariant-loop-left : goal.invariant-loop-left
invariant-loop-left l = record {
  low : l.here < 2 ^ 64;
  seen : AllSeen (see l.view) l.memory l.here l.left;
  rest : marked (see l.view) l.memory.base l.marks l.here l.left ≡ marked (see l.view) l.memory.base l.initial.marks l.at l.len;
  long : length l.marks ≡ l.memory.pages;
  count : l.count ≡ count_true l.marks;
}

abbrev pub decreases-loop-left : goal.decreases-loop-left
decreases-loop-left l = l.left
