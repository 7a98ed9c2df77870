use Rattle.provenance_check.proofs.Bridge.{none_fails_judges}
use Rattle.provenance_check.proofs.laws.none_fails_judges.Goals as goal

pub returns : goal.returns
returns c = none_fails_judges
