use Rattle.runtime_whole.proofs.ServiceLemmas.{pages_keep}
use Rattle.runtime_whole.proofs.services.pages_keep.Goals as goal

pub returns : goal.returns
returns c = pages_keep c.calls_leave_others.ensures
