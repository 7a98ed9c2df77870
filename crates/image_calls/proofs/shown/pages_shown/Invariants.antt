use Rattle.address_view.specs.Windows.{see}
use Rattle.image_calls.proofs.ShownLemmas.{Going}
use Rattle.image_calls.proofs.shown.pages_shown.Given as goal

abbrev pub invariant-loop : goal.invariant-loop
invariant-loop l = Going (see l.view) l.memory l.at l.count l.here l.counter l.pages.items
