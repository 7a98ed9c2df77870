use Rattle.std.proofs.Common.{◌<◌, ◌∙◌, sym, arith}
use Rattle.page_alloc.proofs.RunLemmas.{pages_end, front_more, front_at, not_empty}
use Rattle.page_alloc.proofs.ScanLemmas.{end_inside}
use Rattle.page_alloc.proofs.OwnedLemmas.{seen_more, other_owner, owned_all}
use Rattle.page_alloc.proofs.runs.are_owned.Goals as goal
use Rattle.page_alloc.proofs.runs.are_owned.Goals.{else-end-index-via-then-end-index+then-start-stop+else-not-is, else-end-index-via-then-end-index+else-start-stop, else-end-index-via-else-end-index}

pub returns-then-not-is-clause-owned : goal.returns-then-not-is-clause-owned
returns-then-not-is-clause-owned c =
    let i = c.loop-run.invariant in
    let some = not_empty c.args.runs.now c.loop-run.run-index _ c.requires.none_empty c.loop-run-test.true in
    let more : 0 < c.from-end.result = rw c.from-end.ensures some in
    sym (other_owner _ _ c.args.owner c.args.index c.args.count c.loop-run.end c.from-end.result _
    (front_at c.args.runs.now _ c.loop-run.run-index c.loop-run.end c.from-end.result _ c.loop-run-test.true c.from-end.ensures i.front)
    more c.if-end-index.true c.if-start-stop.true c.requires.some (sym c.is.ensures ∙ c.if-not-is.true))

pub loop-run-preserved : goal.loop-run-preserved
loop-run-preserved c =
    let i = c.loop-run.invariant in
    record {
      front = front_more c.args.runs.now _ c.loop-run.run-index c.loop-run.end c.from-end.result _ c.loop-run-test.true c.from-end.ensures i.front;
      inside = end_inside _ _ c.loop-run.end c.from-end.result _ i.inside (front_at c.args.runs.now _ c.loop-run.run-index c.loop-run.end c.from-end.result _ c.loop-run-test.true c.from-end.ensures i.front);
      seen = seen_more _ _ c.args.owner c.args.index _ c.loop-run.end c.from-end.result _
          (front_at c.args.runs.now _ c.loop-run.run-index c.loop-run.end c.from-end.result _ c.loop-run-test.true c.from-end.ensures i.front) i.seen
          (elim c.else-end-index.branch [
            | else-end-index-via-then-end-index+then-start-stop+else-not-is w ↦ (λ low high. sym w.is.ensures ∙ w.if-not-is.false)
            | else-end-index-via-then-end-index+else-start-stop w ↦ (λ low high. let over = w.if-start-stop.false in absurd (omega arith))
            | else-end-index-via-else-end-index w ↦ (λ low high. let over = w.if-end-index.false in absurd (omega arith))
          ]);
    }

pub returns-clause-owned : goal.returns-clause-owned
returns-clause-owned c =
    let i = c.loop-run.invariant in
    owned_all _ _ _ _ _ i.inside (i.front ∙ pages_end c.args.runs.now c.loop-run.run-index c.loop-run-test.false) i.seen
