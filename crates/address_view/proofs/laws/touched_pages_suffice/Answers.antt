use Rattle.address_view.proofs.TouchLaws.{touched_suffice, marked_same, over_marks}
use Rattle.address_view.proofs.laws.touched_pages_suffice.Goals as goal

pub returns-clause-sure : goal.returns-clause-sure
returns-clause-sure c = touched_suffice

pub returns-clause-marked : goal.returns-clause-marked
returns-clause-marked c = marked_same

pub returns-clause-over : goal.returns-clause-over
returns-clause-over c = over_marks
