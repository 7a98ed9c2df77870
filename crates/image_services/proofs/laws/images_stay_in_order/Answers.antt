use Rattle.image_services.proofs.OrderLemmas.{order_stays}
use Rattle.image_services.proofs.laws.images_stay_in_order.Goals as goal

pub returns : goal.returns
returns c = order_stays
