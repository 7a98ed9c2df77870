use Rattle.std.proofs.Common.{◌-◌, ◌≤◌, length}
use Rattle.prov_layout.proofs.Halves.{LackBelow, LackFrom}
use Rattle.prov_layout.proofs.find.piece_at.Given as goal

abbrev pub invariant-loop-low : goal.invariant-loop-low
invariant-loop-low l = LackBelow l.pieces l.region l.o l.low × LackFrom l.pieces l.region l.o l.high × (l.high ≤ length l.pieces)

abbrev pub decreases-loop-low : goal.decreases-loop-low
decreases-loop-low l = l.high - l.low
