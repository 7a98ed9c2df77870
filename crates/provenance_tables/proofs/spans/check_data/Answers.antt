use Rattle.std.proofs.Common.{sym, length, ◌∙◌}
use Rattle.provenance_tables.specs.Spans.{data_passes}
use Rattle.provenance_tables.proofs.spans.check_data.Goals as goal

pub returns-then-not-data_passes : goal.returns-then-not-data_passes
returns-then-not-data_passes c = sym (c.first_is_first.ensures.fails (data_passes c.args.image.now c.args.state.now c.args.starts.now c.args.lens.now c.args.spans.now) (length c.args.spans.now) c.loop-i.i c.loop-i-test.true c.loop-i.invariant (sym c.data_passes.ensures ∙ c.if-not-data_passes.true))
