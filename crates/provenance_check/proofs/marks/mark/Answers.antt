use Rattle.std.proofs.Common.{arith}
use Rattle.provenance_check.proofs.ReachedLemmas.{marks_new}
use Rattle.provenance_check.proofs.marks.mark.Goals as goal

pub returns : goal.returns
returns c = marks_new c.args.marks.now c.args.number (omega (arith, c.if-n-marks.false)) c.if-marks-n.false
