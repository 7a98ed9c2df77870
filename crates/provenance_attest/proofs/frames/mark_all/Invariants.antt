use Rattle.std.proofs.Common.{◌≡◌, take, replicate, true}
use Rattle.provenance_attest.proofs.frames.mark_all.Given as goal

abbrev pub invariant-loop-mark : goal.invariant-loop-mark
invariant-loop-mark l = take l.mark-index l.marks ≡ replicate l.mark-index true
