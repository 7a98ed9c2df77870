use Rattle.runtime_whole.proofs.ImageLemmas.{images_keep}
use Rattle.runtime_whole.proofs.services.image_services_keep.Goals as goal

pub returns : goal.returns
returns c = images_keep c.loads_keep.ensures c.discards_keep.ensures.unloads
