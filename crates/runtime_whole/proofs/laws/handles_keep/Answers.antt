use Rattle.runtime_whole.proofs.BootLemmas.{handles}
use Rattle.runtime_whole.proofs.laws.handles_keep.Goals as goal

pub returns : goal.returns
returns c = handles c.images_stay_in_order.ensures
