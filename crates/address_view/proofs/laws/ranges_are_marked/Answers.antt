use Rattle.address_view.proofs.RangeMarks.{ranges_are_marked}
use Rattle.address_view.proofs.laws.ranges_are_marked.Goals as goal

pub returns : goal.returns
returns c = ranges_are_marked c.marks_are_put.ensures
