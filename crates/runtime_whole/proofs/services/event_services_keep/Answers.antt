use Rattle.runtime_whole.proofs.EventLemmas.{events_keep}
use Rattle.runtime_whole.proofs.services.event_services_keep.Goals as goal

pub returns : goal.returns
returns c = events_keep
