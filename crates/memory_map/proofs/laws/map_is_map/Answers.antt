use Rattle.memory_map.proofs.LawLemmas.{map_is_map}
use Rattle.memory_map.proofs.laws.map_is_map.Goals as goal

pub returns : goal.returns
returns c = map_is_map
