use Rattle.std.proofs.Common.{ap}
use Rattle.guest_memory.specs.Pages.{Pages}
use Rattle.guest_memory.proofs.NumberLemmas.{stored}
use Rattle.guest_memory.proofs.memory.GuestMemory.put_in_page.Goals as goal

pub returns : goal.returns
returns c = stored _ _ _ _ _ _ _ (ap (λ (m : Pages). m.base) c.touch.view_is) c.requires.width c.in_ok-touch.ensures c.write_number.ensures
