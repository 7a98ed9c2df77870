use Rattle.runtime_whole.proofs.RuntimeLemmas.{runtime_keeps, runtime_whole}
use Rattle.runtime_whole.proofs.services.runtime_services_keep.Goals as goal

pub returns-clause-before : goal.returns-clause-before
returns-clause-before c = runtime_keeps

pub returns-clause-behind : goal.returns-clause-behind
returns-clause-behind c = runtime_whole c.whole_stays.ensures
