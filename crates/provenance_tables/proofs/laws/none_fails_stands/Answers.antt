use Rattle.provenance_tables.proofs.PassedLemmas.{none_fails}
use Rattle.provenance_tables.proofs.laws.none_fails_stands.Goals as goal

pub returns : goal.returns
returns c = none_fails c.every_is_each.ensures.each c.first_is_first.ensures.each c.laid_is_ordered.ensures
