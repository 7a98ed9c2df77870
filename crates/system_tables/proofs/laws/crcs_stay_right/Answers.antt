use Rattle.system_tables.proofs.ReadLemmas.{crcs_after}
use Rattle.system_tables.proofs.laws.crcs_stay_right.Goals as goal

pub returns : goal.returns
returns c = crcs_after
