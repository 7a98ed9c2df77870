use Rattle.mapped_runs.proofs.MadeLemmas.{made_rights, made_shows}
use Rattle.mapped_runs.proofs.made.transition_shows.Goals as goal

pub returns-clause-bytes : goal.returns-clause-bytes
returns-clause-bytes c = made_shows c.regions_are_shown.ensures.bytes

pub returns-clause-rights : goal.returns-clause-rights
returns-clause-rights c = made_rights
