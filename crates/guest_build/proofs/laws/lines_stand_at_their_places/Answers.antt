use Rattle.guest_build.proofs.StandLemmas.{places}
use Rattle.guest_build.proofs.laws.lines_stand_at_their_places.Goals as goal

-- src/laws.rt:25:1
pub returns : goal.returns
returns c = places
