use Rattle.firmware_core.proofs.RunLemmas.{free_turns_are_few}
use Rattle.firmware_core.proofs.laws.free_turns_are_few.Goals as goal

pub returns : goal.returns
returns c = free_turns_are_few c.next_is_above.ensures c.ticks_once.ensures
