use Rattle.provenance_attest.proofs.MarkLemmas.{no_region_left}
use Rattle.provenance_attest.proofs.frames.mark_regions.Goals as goal

pub returns-in-None-clause-value : goal.returns-in-None-clause-value
returns-in-None-clause-value c = no_region_left c.args.base _ _ c.loop-start.rest.now _ c.in-None.ensures.cases c.loop-start.invariant.0
