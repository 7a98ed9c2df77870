use Rattle.prov_runs.proofs.FitLemmas.{decoded_fits}
use Rattle.prov_runs.proofs.fetches.decoded_fits.Goals as goal

pub returns : goal.returns
returns c = decoded_fits
