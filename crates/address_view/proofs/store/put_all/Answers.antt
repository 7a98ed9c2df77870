use Rattle.std.proofs.Common.{◌≡◌, length, arith}
use Rattle.address_view.specs.Windows.{see}
use Rattle.address_view.proofs.LoopLemmas.{putting_touched, putting_behind, putting_over}
use Rattle.address_view.proofs.store.put_all.Goals as goal

pub put_run-requires-clause-touched : goal.put_run-requires-clause-touched
put_run-requires-clause-touched c = putting_touched (see c.args.view.now) c.args.memory.now _ c.args.at c.args.bytes.now c.loop-rest.here _ c.loop-rest.rest.now c.seen_run-run.ensures.few c.loop-rest.invariant

pub loop-rest-preserved : goal.loop-rest-preserved
loop-rest-preserved c =
    putting_behind (see c.args.view.now) c.args.memory.now c.loop-rest.memory c.put_run.new.memory c.args.at c.args.bytes.now c.loop-rest.here c.behind-here.result c.seen_run-run.result.len c.loop-rest.rest.now c.split_at.result.0.now c.split_at.result.1.now
    c.behind-here.ensures c.split_at.ensures.front c.split_at.ensures.back c.split_at.ensures.front_len c.split_at.ensures.back_len c.loop-rest.invariant c.put_run.ensures

pub returns : goal.returns
returns c =
    let over = c.loop-rest-test.false in
    let n : length c.loop-rest.rest.now ≡ 0 = omega arith in
    putting_over (see c.args.view.now) c.args.memory.now c.loop-rest.memory c.args.at c.args.bytes.now c.loop-rest.here c.loop-rest.rest.now n c.loop-rest.invariant
