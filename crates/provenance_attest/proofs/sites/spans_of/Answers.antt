use Rattle.provenance_attest.proofs.Walks.{no_span_left, no_target_left}
use Rattle.provenance_attest.proofs.sites.spans_of.Goals as goal

pub returns-in-None-clause-spans : goal.returns-in-None-clause-spans
returns-in-None-clause-spans c = no_span_left _ _ _ _ c.loop-site.rest.now _ _ c.in-None.ensures.cases c.loop-site.invariant.0

pub returns-in-None-clause-targets : goal.returns-in-None-clause-targets
returns-in-None-clause-targets c = no_target_left _ _ _ _ c.loop-site.rest.now _ _ c.in-None.ensures.cases c.loop-site.invariant.1
