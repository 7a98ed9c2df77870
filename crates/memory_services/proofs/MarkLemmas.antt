-- Marks after a call that lacks memory.
use Rattle.std.proofs.Common.{refl}
use Rattle.guest_memory.specs.Pages.{Pages}
use Rattle.guest_memory.specs.Changes.{TouchedBesides}

-- what is unchanged has no more marks
pub nothing_touched : (m : Pages) → TouchedBesides m m
nothing_touched m = record { rest = refl; kept = λ page h. h }
