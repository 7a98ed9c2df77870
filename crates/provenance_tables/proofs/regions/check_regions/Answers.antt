use Rattle.std.proofs.Common.{sym, length, ◌∙◌}
use Rattle.provenance_tables.specs.Regions.{region_passes}
use Rattle.provenance_tables.proofs.regions.check_regions.Goals as goal

pub returns-then-not-region_passes : goal.returns-then-not-region_passes
returns-then-not-region_passes c = sym (c.first_is_first.ensures.fails (region_passes c.args.state.now c.args.starts.now c.args.lens.now c.args.own.now c.args.spans.now) (length c.args.starts.now) c.loop-n.n c.loop-n-test.true c.loop-n.invariant (sym c.region_passes.ensures ∙ c.if-not-region_passes.true))
