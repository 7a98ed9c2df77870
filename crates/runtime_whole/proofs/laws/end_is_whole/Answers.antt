use Rattle.runtime_whole.proofs.EndLemmas.{end_whole}
use Rattle.runtime_whole.proofs.laws.end_is_whole.Goals as goal

pub returns : goal.returns
returns c = end_whole c.places_are_firmwares.ensures.types
