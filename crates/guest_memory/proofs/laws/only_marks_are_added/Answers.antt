use Rattle.guest_memory.proofs.TouchedLemmas.{marks_alone}
use Rattle.guest_memory.proofs.laws.only_marks_are_added.Goals as goal

pub returns : goal.returns
returns c = marks_alone
