use Rattle.address_view.proofs.RangeLemmas.{stored_there, others_kept}
use Rattle.address_view.proofs.laws.bytes_behind_a_store.Goals as goal

pub returns-clause-stored : goal.returns-clause-stored
returns-clause-stored c = stored_there

pub returns-clause-others : goal.returns-clause-others
returns-clause-others c = others_kept
