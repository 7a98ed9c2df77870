use Rattle.prov_runs.proofs.JoinLemmas.{join_holds}
use Rattle.prov_runs.proofs.loads.joins_hold.Goals as goal

pub returns : goal.returns
returns c = join_holds
