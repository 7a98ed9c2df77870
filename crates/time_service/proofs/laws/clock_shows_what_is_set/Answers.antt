use Rattle.time_service.proofs.LawLemmas.{shows_what_is_set}
use Rattle.time_service.proofs.laws.clock_shows_what_is_set.Goals as goal

pub returns : goal.returns
returns c = shows_what_is_set
