use Rattle.runtime_whole.proofs.BootLemmas.{opening}
use Rattle.runtime_whole.proofs.laws.opening_is_whole.Goals as goal

pub returns : goal.returns
returns c = opening c.opening_covers_ram.ensures c.places_are_firmwares.ensures.opening
