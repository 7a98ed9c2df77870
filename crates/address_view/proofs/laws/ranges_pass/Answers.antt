use Rattle.address_view.proofs.StoreLaws.{seen_of_allowed}
use Rattle.address_view.proofs.PlaceLaws.{pass_is_all, pass_is_none}
use Rattle.address_view.proofs.laws.ranges_pass.Goals as goal

pub returns-clause-each : goal.returns-clause-each
returns-clause-each c = pass_is_all

pub returns-clause-none : goal.returns-clause-none
returns-clause-none c = pass_is_none

pub returns-clause-seen : goal.returns-clause-seen
returns-clause-seen c = seen_of_allowed
