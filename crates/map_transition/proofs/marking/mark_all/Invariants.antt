use Rattle.std.proofs.Common.{◌≡◌, ◌++◌, take, drop}
use Rattle.std.specs.Prelude.{map}
use Rattle.guest_memory.specs.Pages.{bytes_of}
use Rattle.map_transition.specs.Fixes.{marked}
use Rattle.map_transition.proofs.marking.mark_all.Given as goal

abbrev pub invariant-loop-image : goal.invariant-loop-image
invariant-loop-image l = l.kept ≡ map (marked (bytes_of l.memory)) (take l.image-index l.initial.kept) ++ drop l.image-index l.initial.kept
