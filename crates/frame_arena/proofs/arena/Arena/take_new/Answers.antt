use Rattle.std.proofs.Common.{arith}
use Rattle.frame_arena.proofs.SeenLemmas.{past, new_taken}
use Rattle.frame_arena.proofs.arena.Arena.take_new.Goals as goal

pub returns-in-Ok : goal.returns-in-Ok
returns-in-Ok c =
    let n = c.made-number.ensures in
    (c.requires.few, past c.args.self.now c.self.inside.limit c.self.inside.count c.self.inside.first c.self.inside.frames.items c.self.inside.marks.items c.self.invariant.0 c.self.view_is c.made-number.result (omega arith), new_taken c.args.self.now c.keep.new.self c.made-number.result n c.requires.all c.keep.ensures)
