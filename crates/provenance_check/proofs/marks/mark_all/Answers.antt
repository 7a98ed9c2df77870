use Rattle.std.proofs.Common.{sym, subst, ◌+◌}
use Rattle.std.proofs.lemmas.Option.{slice_get-get_or}
use Rattle.provenance_check.specs.Reached.{MarkedTo}
use Rattle.provenance_check.proofs.ReachedLemmas.{marks_more}
use Rattle.provenance_check.proofs.marks.mark_all.Goals as goal

pub loop-i-preserved : goal.loop-i-preserved
loop-i-preserved c =
    subst (MarkedTo (c.loop-i.i + 1) c.args.numbers.now c.args.marks.now c.mark-new.new.marks) (sym c.either-more.ensures)
    (marks_more c.loop-i.i c.args.numbers.now _ c.args.marks.now c.loop-i.marks c.mark-new.new.marks c.loop-i.more c.mark-new.result (slice_get-get_or c.args.numbers.now c.loop-i.i 0 c.loop-i-test.true) c.loop-i.invariant c.mark-new.ensures)
