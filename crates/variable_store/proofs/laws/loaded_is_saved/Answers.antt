use Rattle.variable_store.proofs.LoadedLemmas.{loaded_is_saved}
use Rattle.variable_store.proofs.laws.loaded_is_saved.Goals as goal

pub returns : goal.returns
returns c = loaded_is_saved c.guids_read_back.ensures.bytes
