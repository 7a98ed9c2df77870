use Rattle.std.proofs.Common.{◌≡◌, take, replicate, false}
use Rattle.address_view.proofs.frames.unmark_all.Given as goal

abbrev pub invariant-loop-mark : goal.invariant-loop-mark
invariant-loop-mark l = take l.mark-index l.marks ≡ replicate l.mark-index false
