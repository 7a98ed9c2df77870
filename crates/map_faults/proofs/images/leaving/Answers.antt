use Rattle.std.proofs.Common.{drop}
use Rattle.map_faults.proofs.RuleLemmas.{none_left}
use Rattle.map_faults.proofs.images.leaving.Goals as goal

pub returns-in-None : goal.returns-in-None
returns-in-None c = none_left c.args.by c.loop-number.number (drop c.loop-number.number c.args.sites.now) c.loop-number.rest.now _ c.in-None.ensures.cases c.loop-number.invariant.0
