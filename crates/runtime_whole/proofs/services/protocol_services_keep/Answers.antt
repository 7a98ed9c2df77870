use Rattle.runtime_whole.proofs.ProtocolLemmas.{protocols_keep}
use Rattle.runtime_whole.proofs.services.protocol_services_keep.Goals as goal

pub returns : goal.returns
returns c = protocols_keep c.calls_leave_others.ensures c.handles_keep.ensures
