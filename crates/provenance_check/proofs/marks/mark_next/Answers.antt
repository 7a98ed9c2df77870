use Rattle.std.proofs.Common.{refl}
use Rattle.std.proofs.lemmas.Option.{slice_get_read}
use Rattle.std.proofs.Common.{length}
use Rattle.provenance_check.proofs.ReachedLemmas.{next_all}
use Rattle.provenance_check.proofs.marks.mark_next.Goals as goal

pub returns-then-marks-n : goal.returns-then-marks-n
returns-then-marks-n c =
    next_all c.args.n c.args.nodes.now c.index-nodes-n.result c.args.marks.now c.mark_from.new.marks c.mark_from.result
    (slice_get_read c.args.nodes.now (length c.args.nodes.now) c.args.n c.index-nodes-n.result refl c.requires c.index-nodes-n.is) c.if-marks-n.true c.mark_from.ensures
