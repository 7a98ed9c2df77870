use Rattle.prov_layout.proofs.Halves.{closed_outside}
use Rattle.prov_layout.proofs.laws.closed_outside.Goals as goal

pub returns : goal.returns
returns c = closed_outside
