use Rattle.time_service.proofs.TimeLemmas.{parts_of, is_clock}
use Rattle.time_service.proofs.clock.Clock.set_to.Goals as goal

pub day_number-requires-clause-first : goal.day_number-requires-clause-first
day_number-requires-clause-first c = (parts_of c.args.time.now c.requires).first

pub day_number-requires-clause-last : goal.day_number-requires-clause-last
day_number-requires-clause-last c = (parts_of c.args.time.now c.requires).last

pub day_number-requires-clause-date : goal.day_number-requires-clause-date
day_number-requires-clause-date c = (parts_of c.args.time.now c.requires).civil

pub invariant_of-result : goal.invariant_of-result
invariant_of-result c =
    is_clock c.args.time.now c.day_number.result _ _ _ _ c.args.now c.requires c.day_number.ensures.bound c.from.ensures c.from-2.ensures c.from-3.ensures c.from-4.ensures
