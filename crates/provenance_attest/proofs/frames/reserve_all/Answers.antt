use Rattle.std.proofs.Common.{◌∙◌, ap, Bool, List}
use Rattle.provenance_attest.proofs.MarkLemmas.{no_region_left}
use Rattle.provenance_attest.proofs.frames.reserve_all.Goals as goal

pub returns-in-None-clause-ok : goal.returns-in-None-clause-ok
returns-in-None-clause-ok c =
    c.loop-start.invariant.1.rest
    ∙ ap (λ (marks : List Bool). record c.args.memory.now { touched = marks }) (no_region_left c.args.base c.loop-start.memory.touched _ c.loop-start.rest.now _ c.in-None.ensures.cases c.loop-start.invariant.0)
