use Rattle.frame_arena.proofs.EntryLemmas.{others_stay}
use Rattle.frame_arena.proofs.laws.frames_are_a_map.Goals as goal

pub returns-clause-others : goal.returns-clause-others
returns-clause-others c = others_stay
