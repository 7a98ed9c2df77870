use Rattle.std.proofs.Common.{sym, length, ◌∙◌}
use Rattle.provenance_tables.specs.Spans.{span_passes}
use Rattle.provenance_tables.proofs.spans.check_spans.Goals as goal

pub returns-then-not-span_passes : goal.returns-then-not-span_passes
returns-then-not-span_passes c = sym (c.first_is_first.ensures.fails (span_passes c.args.state.now c.args.starts.now c.args.lens.now c.args.spans.now) (length c.args.spans.now) c.loop-i.i c.loop-i-test.true c.loop-i.invariant (sym c.span_passes.ensures ∙ c.if-not-span_passes.true))
