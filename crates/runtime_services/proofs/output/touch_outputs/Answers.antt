use Rattle.std.proofs.Common.{◌∙◌, drop, ◌+◌, ◌≤◌, length, arith}
use Rattle.address_view.specs.Windows.{see}
use Rattle.runtime_services.proofs.MarkLemmas.{touching_next, touching_over, first_left, over}
use Rattle.runtime_services.proofs.output.touch_outputs.Goals as goal

pub loop-output-preserved : goal.loop-output-preserved
loop-output-preserved c =
    touching_next c.ranges_suffice.ensures (see c.args.view.now) c.args.memory.now c.loop-output.memory c.touch_bytes.new.memory c.args.outputs.now _ (drop (c.loop-output.output-index + 1) c.args.outputs.now) c.output.inside.at c.output.inside.bytes.now
    (first_left c.args.outputs.now c.output-item.result c.loop-output.output-index _ _ c.loop-output-test.true (c.output.view_is ∙ c.output-item.is)) c.loop-output.invariant
    c.in-Ok.ensures.gives.1 c.in-Ok.ensures.touched c.in-Ok.ensures.base c.in-Ok.ensures.pages c.in-Ok.ensures.rights

pub returns-clause-ok : goal.returns-clause-ok
returns-clause-ok c =
    let past = c.loop-output-test.false in
    let all : length c.args.outputs.now ≤ c.loop-output.output-index = omega arith in
    (touching_over (see c.args.view.now) c.args.memory.now c.loop-output.memory c.args.outputs.now _ (over c.args.outputs.now c.loop-output.output-index all) c.loop-output.invariant).0

pub returns-clause-touched : goal.returns-clause-touched
returns-clause-touched c =
    let past = c.loop-output-test.false in
    let all : length c.args.outputs.now ≤ c.loop-output.output-index = omega arith in
    (touching_over (see c.args.view.now) c.args.memory.now c.loop-output.memory c.args.outputs.now _ (over c.args.outputs.now c.loop-output.output-index all) c.loop-output.invariant).1
