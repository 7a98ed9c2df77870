use Rattle.variable_store.proofs.SavedLemmas.{saved_is_loaded}
use Rattle.variable_store.proofs.laws.saved_is_loaded.Goals as goal

pub returns : goal.returns
returns c = saved_is_loaded c.guids_read_back.ensures.guid
