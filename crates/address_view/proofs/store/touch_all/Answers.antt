use Rattle.address_view.specs.Windows.{see}
use Rattle.std.proofs.Common.{◌≡◌, arith}
use Rattle.address_view.proofs.LoopLemmas.{touching_seen, touching_few, touching_behind, touching_ends, touching_over}
use Rattle.address_view.proofs.store.touch_all.Goals as goal

pub seen_run-run-requires-clause-seen : goal.seen_run-run-requires-clause-seen
seen_run-run-requires-clause-seen c = touching_seen (see c.args.view.now) c.args.memory.now _ c.args.at c.args.len c.loop-left.here c.loop-left.left c.loop-left.invariant

pub touch_run-requires-clause-few : goal.touch_run-requires-clause-few
touch_run-requires-clause-few c = touching_few (see c.args.view.now) c.args.memory.now _ c.args.at c.args.len c.loop-left.here _ c.loop-left.left c.seen_run-run.ensures.few c.requires.few c.loop-left.invariant

pub returns-in-Err-clause-err : goal.returns-in-Err-clause-err
returns-in-Err-clause-err c = touching_ends (see c.args.view.now) c.args.memory.now _ _ c.args.at c.args.len c.loop-left.here _ c.loop-left.left c.seen_run-run.ensures.few c.loop-left.invariant c.in-Err.ensures.err

pub loop-left-preserved : goal.loop-left-preserved
loop-left-preserved c = touching_behind (see c.args.view.now) c.args.memory.now _ _ c.args.at c.args.len c.loop-left.here _ _ c.loop-left.left c.behind-here.ensures c.seen_run-run.ensures.few c.loop-left.invariant c.in-Ok.ensures.ok

pub returns-clause-ok : goal.returns-clause-ok
returns-clause-ok c =
    let over = c.loop-left-test.false in
    let n : c.loop-left.left ≡ 0 = omega arith in
    touching_over (see c.args.view.now) c.args.memory.now _ c.args.at c.args.len c.loop-left.here c.loop-left.left n c.loop-left.invariant
