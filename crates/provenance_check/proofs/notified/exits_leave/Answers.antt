use Rattle.std.proofs.Common.{arith, sym, length, ◌∙◌}
use Rattle.std.specs.Prelude.{slice_get}
use Rattle.provenance_check.specs.Notified.{exit_leaves}
use Rattle.provenance_check.proofs.Runs.{all_below, one_below}
use Rattle.provenance_check.proofs.notified.exits_leave.Goals as goal

pub returns-then-not-exit_leaves_at : goal.returns-then-not-exit_leaves_at
returns-then-not-exit_leaves_at c = sym (one_below (λ n. exit_leaves c.args.done.now c.args.marks.now n (slice_get c.args.nodes.now n)) (length c.args.nodes.now) c.loop-n.n c.loop-n-test.true (sym c.exit_leaves_at.ensures ∙ c.if-not-exit_leaves_at.true))

pub returns : goal.returns
returns c = sym (all_below (λ n. exit_leaves c.args.done.now c.args.marks.now n (slice_get c.args.nodes.now n)) (length c.args.nodes.now) (λ i h. c.loop-n.invariant i (omega (arith, h, c.loop-n-test.false))))
