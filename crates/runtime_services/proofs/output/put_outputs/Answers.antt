use Rattle.std.proofs.Common.{◌∙◌, drop, ◌+◌, ◌≤◌, length, arith}
use Rattle.address_view.specs.Windows.{see}
use Rattle.runtime_services.proofs.MarkLemmas.{putting_next, putting_over, first_left, over}
use Rattle.runtime_services.proofs.output.put_outputs.Goals as goal

pub loop-output-preserved : goal.loop-output-preserved
loop-output-preserved c =
    putting_next (see c.args.view.now) c.args.memory.now c.loop-output.memory c.put_touched.new.memory c.args.outputs.now _ (drop (c.loop-output.output-index + 1) c.args.outputs.now) c.output.inside.at c.output.inside.bytes.now
    (first_left c.args.outputs.now c.output-item.result c.loop-output.output-index _ _ c.loop-output-test.true (c.output.view_is ∙ c.output-item.is)) c.loop-output.invariant
    c.put_touched.ensures.after c.put_touched.ensures.marks c.put_touched.ensures.base c.put_touched.ensures.pages c.put_touched.ensures.rights

pub returns-clause-written : goal.returns-clause-written
returns-clause-written c =
    let past = c.loop-output-test.false in
    let all : length c.args.outputs.now ≤ c.loop-output.output-index = omega arith in
    putting_over (see c.args.view.now) c.args.memory.now c.loop-output.memory c.args.outputs.now _ (over c.args.outputs.now c.loop-output.output-index all) c.loop-output.invariant
