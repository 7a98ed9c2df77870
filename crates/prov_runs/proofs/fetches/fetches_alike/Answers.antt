use Rattle.prov_runs.proofs.FetchLemmas.{fetches_alike}
use Rattle.prov_runs.proofs.fetches.fetches_alike.Goals as goal

pub returns : goal.returns
returns c = fetches_alike c.decoded_fits.ensures c.length_is_of_the_low_bits.ensures c.lui_field_is_its_immediate.ensures
