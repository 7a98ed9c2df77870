use Rattle.frame_arena.proofs.SeenLemmas.{is_whole}
use Rattle.frame_arena.proofs.arena.Arena.whole.Goals as goal

pub returns : goal.returns
returns c = is_whole c.args.self.now c.self.inside.limit c.self.inside.count c.self.inside.first c.self.inside.frames.items c.self.inside.marks.items c.self.invariant.0 c.self.view_is
