use Rattle.prov_runs.proofs.StoreLemmas.{regions_stay}
use Rattle.prov_runs.proofs.stores.regions_stay.Goals as goal

pub returns : goal.returns
returns c = regions_stay c.other_bytes_stay.ensures
