use Rattle.std.proofs.Common.{arith, sym, length, ◌∙◌}
use Rattle.std.specs.Prelude.{◌==◌, ◌||◌, not, slice_get}
use Rattle.provenance_tables.specs.Spans.{shares_with}
use Rattle.provenance_tables.proofs.Runs.{all_below, one_below}
use Rattle.provenance_tables.proofs.spans.shares_with_none.Goals as goal

pub returns-then-not-is_apart : goal.returns-then-not-is_apart
returns-then-not-is_apart c = sym (one_below c.every_is_each.ensures.fails (λ j. j == c.args.i || not (shares_with c.args.s.now (slice_get c.args.spans.now j))) (length c.args.spans.now) c.loop-j.j c.loop-j-test.true (sym c.is_apart.ensures ∙ c.if-not-is_apart.true))

pub returns : goal.returns
returns c = sym (all_below c.every_is_each.ensures.passes (λ j. j == c.args.i || not (shares_with c.args.s.now (slice_get c.args.spans.now j))) (length c.args.spans.now) (λ i h. c.loop-j.invariant i (omega (arith, h, c.loop-j-test.false))))
