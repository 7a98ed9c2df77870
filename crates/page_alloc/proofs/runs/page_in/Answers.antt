use Rattle.std.proofs.Common.{arith, sym, ◌∙◌, ap}
use Rattle.std.specs.Prelude.{slice_get}
use Rattle.page_alloc.proofs.RunLemmas.{page_here, page_later, pages_end}
use Rattle.page_alloc.proofs.runs.page_in.Goals as goal

pub returns-then-left-from : goal.returns-then-left-from
returns-then-left-from c = sym (page_here c.args.runs.now c.loop-run.run-index c.loop-run.left _ (omega arith) (omega arith)) ∙ c.loop-run.invariant

pub loop-run-preserved : goal.loop-run-preserved
loop-run-preserved c =
    sym (page_later c.args.runs.now c.loop-run.run-index c.loop-run.left c.from-left.result _ (omega arith) c.from-left.ensures (omega arith)) ∙ c.loop-run.invariant

pub returns : goal.returns
returns c = ap (λ pages. slice_get pages c.loop-run.left) (sym (pages_end c.args.runs.now c.loop-run.run-index (omega arith))) ∙ c.loop-run.invariant
