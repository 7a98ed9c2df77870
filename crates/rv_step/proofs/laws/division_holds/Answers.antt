use Rattle.rv_step.proofs.DivisionLemmas.{signed_divides, unsigned_divides}
use Rattle.rv_step.proofs.laws.division_holds.Goals as goal

pub returns : goal.returns
returns c = record { signed = signed_divides; unsigned = unsigned_divides }
