use Rattle.std.proofs.Common.{arith, sym, ap, length, ◌∙◌}
use Rattle.std.specs.Prelude.{not}
use Rattle.provenance_tables.specs.Regions.{meets_region}
use Rattle.provenance_tables.proofs.Runs.{all_below, one_below}
use Rattle.provenance_tables.proofs.regions.meets_no_region.Goals as goal

pub returns-then-meets_region : goal.returns-then-meets_region
returns-then-meets_region c = sym (one_below c.every_is_each.ensures.fails (λ m. not (meets_region c.args.starts.now c.args.lens.now c.args.n m)) (length c.args.starts.now) c.loop-m.m c.loop-m-test.true (ap not (sym c.meets_region.ensures ∙ c.if-meets_region.true)))

pub returns : goal.returns
returns c = sym (all_below c.every_is_each.ensures.passes (λ m. not (meets_region c.args.starts.now c.args.lens.now c.args.n m)) (length c.args.starts.now) (λ i h. c.loop-m.invariant i (omega (arith, h, c.loop-m-test.false))))
