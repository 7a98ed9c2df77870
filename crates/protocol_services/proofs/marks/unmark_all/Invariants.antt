use Rattle.std.proofs.Common.{◌≡◌, take, replicate, false}
use Rattle.protocol_services.proofs.marks.unmark_all.Given as goal

abbrev pub invariant-loop-mark : goal.invariant-loop-mark
invariant-loop-mark l = take l.mark-index l.marks ≡ replicate l.mark-index false
