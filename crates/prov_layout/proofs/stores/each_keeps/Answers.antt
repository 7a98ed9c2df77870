use Rattle.std.proofs.Common.{sym, arith}
use Rattle.prov_layout.specs.Offsets.{count}
use Rattle.prov_layout.specs.Pieces.{piece_at}
use Rattle.prov_layout.specs.Stores.{store_keeps}
use Rattle.prov_layout.proofs.Runs.{every_of, not_every, more}
use Rattle.prov_layout.proofs.stores.each_keeps.Goals as goal

pub returns-then-run-eq0 : goal.returns-then-run-eq0
returns-then-run-eq0 c = sym (not_every (λ o. store_keeps (piece_at c.args.pieces.now c.args.region) o c.args.width c.args.kind.now) c.args.s.now.lo c.args.s.now.by (count c.args.s.now) c.loop-done.done c.loop-done-test.true (c.kept_run-run.ensures.none c.if-run-eq0.true))

pub loop-done-preserved : goal.loop-done-preserved
loop-done-preserved c = (
  more (λ o. store_keeps (piece_at c.args.pieces.now c.args.region) o c.args.width c.args.kind.now) c.args.s.now.lo c.args.s.now.by c.loop-done.done c.kept_run-run.result c.loop-done.invariant.0 c.kept_run-run.ensures.keeps,
  omega (arith, c.kept_run-run.ensures.most, c.loop-done-test.true),
)

pub returns : goal.returns
returns c = sym (every_of (λ o. store_keeps (piece_at c.args.pieces.now c.args.region) o c.args.width c.args.kind.now) c.args.s.now.lo c.args.s.now.by (count c.args.s.now) (λ i h. c.loop-done.invariant.0 i (omega (arith, h, c.loop-done-test.false))))
