use Rattle.std.proofs.Common.{arith}
use Rattle.provenance_check.proofs.InPlace.{ordered, up_to}
use Rattle.provenance_check.proofs.conditions.are_ordered.Goals as goal

pub loop-i-preserved : goal.loop-i-preserved
loop-i-preserved c = up_to c.args.pieces.now c.loop-i.i c.loop-i.invariant (c.is_in_place.ensures.proper c.if-not-is_in_place.false) (c.is_in_place.ensures.behind c.if-not-is_in_place.false)

pub returns : goal.returns
returns c = λ e. ordered c.args.pieces.now (λ k h. c.loop-i.invariant k (omega (arith, h, c.loop-i-test.false)))
