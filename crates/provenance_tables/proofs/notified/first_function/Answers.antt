use Rattle.std.proofs.Common.{sym, length, ◌∙◌}
use Rattle.provenance_tables.specs.Tables.{notify_passes}
use Rattle.provenance_tables.proofs.notified.first_function.Goals as goal

pub returns-then-not-notify_passes : goal.returns-then-not-notify_passes
returns-then-not-notify_passes c = sym (c.first_is_first.ensures.fails (notify_passes c.args.image.now c.args.starts.now c.args.lens.now c.args.functions.now c.args.nodes.now c.args.notify.now c.args.marks.now) (length c.args.notify.now) c.loop-i.i c.loop-i-test.true c.loop-i.invariant (sym c.notify_passes.ensures ∙ c.if-not-notify_passes.true))
