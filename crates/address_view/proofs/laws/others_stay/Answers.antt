use Rattle.address_view.proofs.TouchLaws.{others_stay}
use Rattle.address_view.proofs.laws.others_stay.Goals as goal

pub returns : goal.returns
returns c = others_stay c.bytes_are_put.ensures c.marks_are_put.ensures
