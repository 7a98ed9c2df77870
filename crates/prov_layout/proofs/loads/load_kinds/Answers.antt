use Rattle.std.proofs.Common.{◌-◌, ◌/◌, ◌∙◌}
use Rattle.prov_layout.specs.Pieces.{is_shut, shown}
use Rattle.prov_layout.proofs.Folds.{last, one_more}
use Rattle.prov_layout.proofs.loads.load_kinds.Goals as goal

pub loop-k-init : goal.loop-k-init
loop-k-init c = c.load_kind-kind.ensures ∙ last (shown (is_shut c.args.reader.now.notified c.args.reader.now.done.now) c.args.pieces.now c.args.region) c.args.s.now.lo c.args.s.now.by c.args.width ((c.args.s.now.hi - c.args.s.now.lo) / c.args.s.now.by)

pub loop-k-preserved : goal.loop-k-preserved
loop-k-preserved c =
    c.both-kind.ensures ∙ one_more (shown (is_shut c.args.reader.now.notified c.args.reader.now.done.now) c.args.pieces.now c.args.region) c.args.s.now.lo c.args.s.now.by c.args.width ((c.args.s.now.hi - c.args.s.now.lo) / c.args.s.now.by) c.loop-k.k c.load_kind-here.result c.loop-k.kind c.loop-k-test.true c.load_kind-here.ensures c.loop-k.invariant
