use Rattle.runtime_whole.proofs.LoadLemmas.{loads}
use Rattle.runtime_whole.proofs.laws.loads_keep.Goals as goal

pub returns : goal.returns
returns c = loads c.calls_leave_others.ensures c.read_images_are_sound.ensures.image c.read_sites_are_sound.ensures c.sites_are_entries.ensures c.images_stay_in_order.ensures
