use Rattle.protocol_db.proofs.OrderLemmas.{all_uninstalled_in_order}
use Rattle.protocol_db.proofs.laws.all_uninstalled_in_order.Goals as goal

pub returns : goal.returns
returns c = all_uninstalled_in_order c.same_is_equal.ensures c.discard_leaves_others.ensures
