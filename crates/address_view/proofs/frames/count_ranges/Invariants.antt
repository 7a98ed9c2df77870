use Rattle.std.proofs.Common.{◌≡◌, length, drop}
use Rattle.guest_memory.specs.Lists.{count_true}
use Rattle.address_view.specs.Windows.{see}
use Rattle.address_view.specs.Ranges.{marked_ranges}
use Rattle.address_view.proofs.frames.count_ranges.Given as goal

abbrev pub invariant-loop-range : goal.invariant-loop-range
invariant-loop-range l = record {
  rest : marked_ranges (see l.view) l.memory.base l.marks (drop l.range-index l.ranges) ≡ marked_ranges (see l.view) l.memory.base l.memory.touched l.ranges;
  long : length l.marks ≡ l.memory.pages;
  count : l.count ≡ count_true l.marks;
}
