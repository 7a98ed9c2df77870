use Rattle.prov_runs.proofs.ReadLemmas.{reads_hold}
use Rattle.prov_runs.proofs.loads.reads_hold.Goals as goal

pub returns : goal.returns
returns c = reads_hold c.bits_fit.ensures
