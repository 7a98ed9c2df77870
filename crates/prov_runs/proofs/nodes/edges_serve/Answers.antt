use Rattle.prov_runs.proofs.NodeLemmas.{edges_serve}
use Rattle.prov_runs.proofs.nodes.edges_serve.Goals as goal

pub returns : goal.returns
returns c = edges_serve c.fits_is_sound.ensures
