use Rattle.runtime_whole.proofs.StartLemmas.{starts}
use Rattle.runtime_whole.proofs.laws.starts_keep.Goals as goal

pub returns : goal.returns
returns c = starts c.images_stay_in_order.ensures
