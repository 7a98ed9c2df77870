use Rattle.mapped_runs.proofs.TurnLemmas.{functions_are_code}
use Rattle.mapped_runs.proofs.made.functions_are_code.Goals as goal

pub returns : goal.returns
returns c = functions_are_code c.touched_stay.ensures.functions
