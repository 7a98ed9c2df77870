use Rattle.address_view.proofs.ViewLemmas.{seen_byte}
use Rattle.address_view.proofs.laws.seen_elsewhere.Goals as goal

pub returns : goal.returns
returns c = seen_byte
