use Rattle.prov_layout.proofs.Runs.{every_of, not_every, of_every}
use Rattle.prov_layout.proofs.laws.every_is_each.Goals as goal

pub returns-clause-passes : goal.returns-clause-passes
returns-clause-passes c = every_of

pub returns-clause-each : goal.returns-clause-each
returns-clause-each c = of_every

pub returns-clause-fails : goal.returns-clause-fails
returns-clause-fails c = not_every
