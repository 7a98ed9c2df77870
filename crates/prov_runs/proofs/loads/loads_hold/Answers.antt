use Rattle.prov_runs.proofs.LoadLemmas.{loads_hold, spans_hold, stack_holds}
use Rattle.prov_runs.proofs.loads.loads_hold.Goals as goal

pub returns-clause-one : goal.returns-clause-one
returns-clause-one c = loads_hold

pub returns-clause-span : goal.returns-clause-span
returns-clause-span c = spans_hold

pub returns-clause-stack : goal.returns-clause-stack
returns-clause-stack c = stack_holds
