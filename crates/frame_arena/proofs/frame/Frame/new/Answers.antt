use Rattle.frame_arena.proofs.FrameLemmas.{zeros_frame}
use Rattle.frame_arena.proofs.frame.Frame.new.Goals as goal

pub invariant_of-result : goal.invariant_of-result
invariant_of-result c = rw c.in_ok-new.ensures.ok zeros_frame
