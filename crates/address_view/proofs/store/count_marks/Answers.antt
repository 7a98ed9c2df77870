use Rattle.address_view.specs.Windows.{see}
use Rattle.std.proofs.Common.{◌≡◌, arith, sym, ◌∙◌}
use Rattle.address_view.proofs.MarkedLemmas.{count_length}
use Rattle.address_view.proofs.LoopLemmas.{low_behind, seen_behind, marks_behind, marked_over}
use Rattle.address_view.proofs.store.count_marks.Goals as goal

pub overflow_add-count : goal.overflow_add-count
overflow_add-count c =
    let one = c.mark-count.ensures.one in let k = c.loop-left.invariant.count in let long = c.loop-left.invariant.long in let few = c.whole.ensures.pages_high in
    omega (arith, count_length c.loop-left.marks)

pub loop-left-preserved : goal.loop-left-preserved
loop-left-preserved c =
    let run = c.seen_run-run.result in
    let few = c.seen_run-run.ensures.few in
    record {
      low = low_behind c.loop-left.here run.len _ c.behind-here.ensures;
      seen = seen_behind (see c.args.view.now) c.args.memory.now c.loop-left.here _ run.len c.loop-left.left c.behind-here.ensures few c.loop-left.invariant.low c.loop-left.invariant.seen;
      rest = marks_behind (see c.args.view.now) c.args.memory.now.base c.loop-left.marks _ c.loop-left.here _ run.len c.loop-left.left c.behind-here.ensures few c.loop-left.invariant.low c.mark-count.ensures.marks ∙ c.loop-left.invariant.rest;
      long = c.mark-count.ensures.long;
      count = let m = c.mark-count.ensures.count in let k = c.loop-left.invariant.count in omega arith;
    }

pub returns-clause-marks : goal.returns-clause-marks
returns-clause-marks c =
    let over = c.loop-left-test.false in
    let n : c.loop-left.left ≡ 0 = omega arith in
    sym (marked_over (see c.args.view.now) c.args.memory.now.base c.loop-left.marks c.loop-left.here c.loop-left.left n) ∙ c.loop-left.invariant.rest
