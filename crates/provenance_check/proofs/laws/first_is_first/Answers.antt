use Rattle.provenance_check.proofs.Runs.{each_passes, first_fails, none_fails}
use Rattle.provenance_check.proofs.laws.first_is_first.Goals as goal

pub returns-clause-fails : goal.returns-clause-fails
returns-clause-fails c = first_fails

pub returns-clause-none : goal.returns-clause-none
returns-clause-none c = none_fails

pub returns-clause-each : goal.returns-clause-each
returns-clause-each c = each_passes
