use Rattle.record_names.proofs.FaultLemmas.{fault_back}
use Rattle.record_names.proofs.fault_reading.faults_read_back.Goals as goal

pub returns : goal.returns
returns c = fault_back c.decimals_read_back.ensures
