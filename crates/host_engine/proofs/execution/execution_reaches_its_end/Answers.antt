use Rattle.host_engine.proofs.ExecutionLemmas.{executions_end}
use Rattle.host_engine.proofs.execution.execution_reaches_its_end.Goals as goal

pub returns : goal.returns
returns c = executions_end
