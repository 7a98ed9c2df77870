use Rattle.std.proofs.Common.{◌∙◌}
use Rattle.provenance_check.proofs.ReachedLemmas.{all_reached, starts_marked, starts_reached, stays_marked}
use Rattle.provenance_check.proofs.marks.settle.Goals as goal

pub loop-init : goal.loop-init
loop-init c = (
  c.mark_all.ensures.long ∙ c.requires.long,
  starts_reached c.args.nodes.now c.args.starts.now c.args.marks.now c.mark_all.new.marks c.mark_all.result c.requires.none c.mark_all.ensures,
  starts_marked c.args.starts.now c.args.marks.now c.mark_all.new.marks c.mark_all.result c.mark_all.ensures,
)

pub returns-then-not-spread : goal.returns-then-not-spread
returns-then-not-spread c =
    all_reached c.args.nodes.now c.args.starts.now c.spread.new.marks (c.spread.ensures.long ∙ c.loop.invariant.0) (c.spread.ensures.sound c.args.starts.now c.loop.invariant.1)
    (stays_marked c.args.nodes.now c.args.starts.now c.loop.marks c.spread.new.marks c.spread.result _ c.spread.ensures c.loop.invariant.2) (c.spread.ensures.closed c.if-not-spread.true)
