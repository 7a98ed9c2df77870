use Rattle.system_tables.proofs.LawLemmas.{crcs_right}
use Rattle.system_tables.proofs.laws.crcs_are_right.Goals as goal

pub returns : goal.returns
returns c = crcs_right
