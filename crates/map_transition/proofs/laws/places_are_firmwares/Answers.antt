use Rattle.map_transition.proofs.OpeningLemmas.{places_at_opening, places_have_types}
use Rattle.map_transition.proofs.laws.places_are_firmwares.Goals as goal

pub returns-clause-opening : goal.returns-clause-opening
returns-clause-opening c = places_at_opening

pub returns-clause-types : goal.returns-clause-types
returns-clause-types c = places_have_types
