use Rattle.address_view.specs.Windows.{see}
use Rattle.std.proofs.Common.{sym, ◌∙◌, ◌≡◌, true, false}
use Rattle.address_view.proofs.LoopLemmas.{run_touched, run_room, run_put}
use Rattle.address_view.proofs.store.put_run.Goals as goal

pub unreachable-requires : goal.unreachable-requires
unreachable-requires c =
    let t = run_touched (see c.args.view.now) c.args.memory.now c.args.at c.args.run c.requires.run c.whole.ensures c.requires.touched in
    let e : true ≡ false = sym t ∙ (rw c.in-Err-Memory.field-0-is at c.in-Err-Memory.ensures.gives).1 in cc

pub unreachable-requires-in-Err-Frames : goal.unreachable-requires-in-Err-Frames
unreachable-requires-in-Err-Frames c =
    let t = run_touched (see c.args.view.now) c.args.memory.now c.args.at c.args.run c.requires.run c.whole.ensures c.requires.touched in
    run_room c.args.memory.now _ t (rw c.in-Err-Frames.field-0-is at c.in-Err-Frames.ensures.gives).0

pub returns : goal.returns
returns c = run_put (see c.args.view.now) c.args.memory.now _ c.args.at c.args.run c.args.bytes.now c.parts_are_put.ensures c.requires.run c.whole.ensures c.requires.long c.in-Ok.ensures.gives.1
