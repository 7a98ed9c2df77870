use Rattle.prov_laws.proofs.EndLemmas.{calls_end_alike}
use Rattle.prov_laws.proofs.calls.calls_end_alike.Goals as goal

pub returns : goal.returns
returns c = calls_end_alike c.length_is_of_the_low_bits.ensures c.none_fails_judges.ensures c.calls_go_alike.ensures
