use Rattle.variable_store.proofs.NameLemmas.{nothing_seen, is_the_seen, is_not_seen}
use Rattle.variable_store.proofs.places.look.Goals as goal

pub returns-then-is_seen-clause-seen : goal.returns-then-is_seen-clause-seen
returns-then-is_seen-clause-seen c =
    is_the_seen c.args.variables.now c.args.name.now c.args.vendor.now c.args.runtime c.in-Some.place c.index-variables-place.result c.index-variables-place.is c.is_seen.result c.is_seen.ensures c.requires.apart c.in-Some.ensures.place c.if-is_seen.true

pub returns-else-is_seen-clause-seen : goal.returns-else-is_seen-clause-seen
returns-else-is_seen-clause-seen c =
    is_not_seen c.args.variables.now c.args.name.now c.args.vendor.now c.args.runtime c.in-Some.place c.index-variables-place.result c.index-variables-place.is c.is_seen.result c.is_seen.ensures c.requires.apart c.in-Some.ensures.place c.if-is_seen.false

pub returns-in-None-clause-seen : goal.returns-in-None-clause-seen
returns-in-None-clause-seen c = nothing_seen c.args.variables.now c.args.name.now c.args.vendor.now c.args.runtime c.in-None.ensures.place
