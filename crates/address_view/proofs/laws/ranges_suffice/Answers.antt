use Rattle.address_view.proofs.FrameLemmas.{ranges_suffice}
use Rattle.address_view.proofs.laws.ranges_suffice.Goals as goal

pub returns : goal.returns
returns c = ranges_suffice
