use Rattle.std.proofs.Common.{sym, subst, ◌+◌}
use Rattle.provenance_check.specs.Reached.{SpreadTo}
use Rattle.provenance_check.proofs.ReachedLemmas.{spread_more}
use Rattle.provenance_check.proofs.marks.spread.Goals as goal

pub loop-n-preserved : goal.loop-n-preserved
loop-n-preserved c =
    subst (SpreadTo (c.loop-n.n + 1) c.args.nodes.now c.args.marks.now c.mark_next-new.new.marks) (sym c.either-more.ensures)
    (spread_more c.loop-n.n c.args.nodes.now c.args.marks.now c.loop-n.marks c.mark_next-new.new.marks c.loop-n.more c.mark_next-new.result c.loop-n.invariant c.mark_next-new.ensures)
