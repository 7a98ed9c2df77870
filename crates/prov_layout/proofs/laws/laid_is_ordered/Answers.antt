use Rattle.prov_layout.proofs.Sorted.{laid_ordered}
use Rattle.prov_layout.proofs.laws.laid_is_ordered.Goals as goal

pub returns : goal.returns
returns c = laid_ordered
