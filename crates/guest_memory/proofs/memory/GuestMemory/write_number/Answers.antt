use Rattle.guest_memory.proofs.NumberLemmas.{wrote}
use Rattle.guest_memory.proofs.memory.GuestMemory.write_number.Goals as goal

pub returns : goal.returns
returns c = wrote _ _ _ c.args.at c.args.width c.args.value c.self.invariant.0 c.self.view_is c.requires.inside c.requires.touched c.requires.width c.write_low.ensures.value
