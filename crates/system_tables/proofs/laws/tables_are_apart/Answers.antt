use Rattle.system_tables.proofs.LawLemmas.{tables_apart}
use Rattle.system_tables.proofs.laws.tables_are_apart.Goals as goal

pub returns : goal.returns
returns c = tables_apart
