use Rattle.std.proofs.Common.{◌≡◌, ◌≤◌, ◌*◌, drop, None}
use Rattle.map_faults.specs.Faults.{first_fault}
use Rattle.virtual_map.specs.States.{SameParts}
use Rattle.runtime_turn.specs.Functions.{ground_of}
use Rattle.page_alloc.specs.Layout.{IsLayout}
use Rattle.map_transition.proofs.RunLemmas.{Left, Keeps}
use Rattle.map_transition.proofs.running.run_all.Given as goal

abbrev pub invariant-loop-i : goal.invariant-loop-i
invariant-loop-i l = record {
  left : Left l.map.entries l.sp l.steps (drop l.i l.initial.state.notifies) l.state l.initial.state.notifies l.initial.state;
  same : SameParts l.initial.state l.state;
  layout : IsLayout l.state.layout;
  accepted : first_fault (ground_of l.state) l.map ≡ None;
  few : l.steps ≤ 1000000 * l.i;
  touched : Keeps l.initial.state.memory l.state.memory;
}
