use Rattle.std.proofs.Common.{arith, sym, ap, length, ◌∙◌}
use Rattle.std.specs.Prelude.{not}
use Rattle.provenance_check.specs.Notified.{serves_in}
use Rattle.provenance_check.proofs.Runs.{all_below, one_below}
use Rattle.provenance_check.proofs.notified.serves_in_none.Goals as goal

pub returns-then-serves_in : goal.returns-then-serves_in
returns-then-serves_in c = sym (one_below (λ r. not (serves_in c.args.starts.now c.args.lens.now c.args.context c.args.node.now r)) (length c.args.starts.now) c.loop-r.r c.loop-r-test.true (ap not (sym c.serves_in.ensures ∙ c.if-serves_in.true)))

pub returns : goal.returns
returns c = sym (all_below (λ r. not (serves_in c.args.starts.now c.args.lens.now c.args.context c.args.node.now r)) (length c.args.starts.now) (λ i h. c.loop-r.invariant i (omega (arith, h, c.loop-r-test.false))))
