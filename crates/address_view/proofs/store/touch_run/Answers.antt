use Rattle.address_view.specs.Windows.{see}
use Rattle.std.proofs.Common.{arith, ap, ◌∙◌, List, Bool}
use Rattle.guest_memory.specs.Lists.{count_true}
use Rattle.address_view.proofs.LoopLemmas.{run_reserved}
use Rattle.address_view.proofs.store.touch_run.Goals as goal

pub unreachable-requires-in-Err-Frames : goal.unreachable-requires-in-Err-Frames
unreachable-requires-in-Err-Frames c =
    let one = ap count_true (run_reserved (see c.args.view.now) c.args.memory.now c.args.at c.args.run c.requires.run c.whole.ensures) in
    let more = (rw c.in-Err-Frames.field-0-is at c.in-Err-Frames.ensures.gives).1 in
    let few = c.requires.few in omega (arith, one, more, few)

pub returns-in-Ok-clause-ok : goal.returns-in-Ok-clause-ok
returns-in-Ok-clause-ok c =
    c.in-Ok.ensures.gives.2 ∙ ap (λ (marks : List Bool). record c.args.memory.now { touched = marks }) (run_reserved (see c.args.view.now) c.args.memory.now c.args.at c.args.run c.requires.run c.whole.ensures)
