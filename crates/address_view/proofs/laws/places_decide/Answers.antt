use Rattle.address_view.proofs.PlaceLaws.{places_decide}
use Rattle.address_view.proofs.laws.places_decide.Goals as goal

pub returns : goal.returns
returns c = places_decide
