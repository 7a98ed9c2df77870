use Rattle.std.proofs.Common.{◌≡◌, ◌-◌}
use Rattle.prov_layout.specs.Laid.{put_all, service_cells}
use Rattle.prov_layout.proofs.laying.lay_given.Given as goal

abbrev pub invariant-loop-i : goal.invariant-loop-i
invariant-loop-i l = put_all l.pieces.items (service_cells l.i (14 - l.i)) ≡ put_all l.initial.pieces.items (service_cells 0 14)
