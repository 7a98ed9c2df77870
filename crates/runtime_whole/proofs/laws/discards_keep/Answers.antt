use Rattle.runtime_whole.proofs.DiscardLemmas.{discards, unloads}
use Rattle.runtime_whole.proofs.laws.discards_keep.Goals as goal

pub returns-clause-discards : goal.returns-clause-discards
returns-clause-discards c = discards c.calls_leave_others.ensures c.others_stay.ensures c.pool_leaves_others.ensures c.images_stay_in_order.ensures

pub returns-clause-unloads : goal.returns-clause-unloads
returns-clause-unloads c = unloads (discards c.calls_leave_others.ensures c.others_stay.ensures c.pool_leaves_others.ensures c.images_stay_in_order.ensures)
