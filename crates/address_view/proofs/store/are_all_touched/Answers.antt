use Rattle.address_view.specs.Windows.{see}
use Rattle.std.proofs.Common.{◌≡◌, arith, sym, refl, ◌∙◌}
use Rattle.address_view.proofs.RunLaws.{run_all}
use Rattle.address_view.proofs.LoopLemmas.{low_behind, seen_behind, all_behind, all_over, all_true, all_false}
use Rattle.address_view.proofs.store.are_all_touched.Goals as goal

pub loop-left-preserved : goal.loop-left-preserved
loop-left-preserved c =
    let run = c.seen_run-run.result in
    let few = c.seen_run-run.ensures.few in
    let all = run_all (see c.args.view.now) c.args.memory.now c.loop-left.here run c.seen_run-run.ensures.found c.args.memory.now.touched c.whole.ensures in
    record {
      low = low_behind c.loop-left.here run.len _ c.behind-here.ensures;
      seen = seen_behind (see c.args.view.now) c.args.memory.now c.loop-left.here _ run.len c.loop-left.left c.behind-here.ensures few c.loop-left.invariant.low c.loop-left.invariant.seen;
      rest = all_true _ _ _ (sym all ∙ sym c.if-not-is_touched.ensures) (all_behind (see c.args.view.now) c.args.memory.now.base c.args.memory.now.touched c.loop-left.here _ run.len c.loop-left.left c.behind-here.ensures few c.loop-left.invariant.low)
          ∙ c.loop-left.invariant.rest;
    }

pub returns-then-not-is_touched : goal.returns-then-not-is_touched
returns-then-not-is_touched c =
    let run = c.seen_run-run.result in
    let all = run_all (see c.args.view.now) c.args.memory.now c.loop-left.here run c.seen_run-run.ensures.found c.args.memory.now.touched c.whole.ensures in
    all_false _ _ _ (sym all ∙ sym c.is_touched.ensures ∙ c.if-not-is_touched.true) (all_behind (see c.args.view.now) c.args.memory.now.base c.args.memory.now.touched c.loop-left.here _ run.len c.loop-left.left refl c.seen_run-run.ensures.few c.loop-left.invariant.low)
    ∙ c.loop-left.invariant.rest

pub returns : goal.returns
returns c =
    let over = c.loop-left-test.false in
    let n : c.loop-left.left ≡ 0 = omega arith in
    sym (all_over (see c.args.view.now) c.args.memory.now.base c.args.memory.now.touched c.loop-left.here c.loop-left.left n) ∙ c.loop-left.invariant.rest
