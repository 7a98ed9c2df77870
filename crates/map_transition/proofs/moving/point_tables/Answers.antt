use Rattle.std.proofs.Common.{◌≡◌, subst, sym, true}
use Rattle.guest_memory.specs.Pages.{is_touched, page_of}
use Rattle.virtual_map.specs.States.{Runtime}
use Rattle.map_transition.proofs.WholeLemmas.{system_touched}
use Rattle.map_transition.proofs.moving.point_tables.Goals as goal

pub move_tables-requires-clause-touched : goal.move_tables-requires-clause-touched
move_tables-requires-clause-touched c = subst (λ (r : Runtime). is_touched r.memory (page_of r.memory r.layout.system) ≡ true) (sym c.state.view_is) (system_touched c.args.state.now c.requires)
