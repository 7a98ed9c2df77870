use Rattle.std.proofs.Common.{arith, sym, ◌∙◌}
use Rattle.std.specs.Prelude.{◌==◌}
use Rattle.std.specs.List.{list_any}
use Rattle.provenance_check.proofs.Runs.{all_below, one_below}
use Rattle.provenance_check.proofs.order.has_all.Goals as goal

pub returns-then-not-contains : goal.returns-then-not-contains
returns-then-not-contains c = sym (one_below (λ cell. list_any (λ c. c == cell) c.args.done.now) c.args.cells c.loop-cell.cell-counter c.loop-cell-test.true (sym c.contains.ensures.value ∙ c.if-not-contains.true))

pub returns : goal.returns
returns c = sym (all_below (λ cell. list_any (λ c. c == cell) c.args.done.now) c.args.cells (λ i h. c.loop-cell.invariant i (omega (arith, h, c.loop-cell-test.false))))
