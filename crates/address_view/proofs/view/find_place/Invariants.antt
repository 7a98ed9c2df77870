use Rattle.std.proofs.Common.{◌≡◌, drop}
use Rattle.address_view.specs.Windows.{window_of}
use Rattle.address_view.proofs.view.find_place.Given as goal

abbrev pub invariant-loop-window : goal.invariant-loop-window
invariant-loop-window l = window_of (drop l.window-index l.windows) l.phys ≡ window_of l.windows l.phys
