use Rattle.std.proofs.Common.{◌≤◌, drop}
use Rattle.address_view.specs.Ranges.{total_length}
use Rattle.address_view.proofs.frames.are_few.Given as goal

-- what is left is enough for the ranges behind, if it was for all
abbrev pub invariant-loop-range : goal.invariant-loop-range
invariant-loop-range l = total_length (drop l.range-index l.ranges) ≤ l.left → total_length l.ranges ≤ l.most
