use Rattle.time_service.proofs.LawLemmas.{dated}
use Rattle.time_service.proofs.NumberLemmas.{numbered, end_is}
use Rattle.time_service.proofs.laws.dates_are_numbered.Goals as goal

pub returns : goal.returns
returns c = record { dates = dated; numbers = numbered; none = end_is }
