use Rattle.std.proofs.Common.{◌≡◌, ◌-◌}
use Rattle.std.specs.Prelude.{None}
use Rattle.map_faults.specs.Faults.{first_fault}
use Rattle.virtual_map.specs.States.{SameParts}
use Rattle.address_view.specs.Windows.{see}
use Rattle.address_view.specs.Seen.{IsCode}
use Rattle.runtime_turn.specs.Functions.{ground_of, most_steps}
use Rattle.runtime_turn.proofs.RunLemmas.{Left}
use Rattle.runtime_turn.proofs.running.run_on.Given as goal

abbrev pub invariant-loop-step : goal.invariant-loop-step
invariant-loop-step l =
    Left (most_steps - l.step) l.map.entries l.regs.x l.regs.pc l.state l.initial.regs.x l.initial.regs.pc l.initial.state
    × SameParts l.initial.state l.state
    × IsCode (see l.state.view) l.state.memory l.code
    × (first_fault (ground_of l.state) l.map ≡ None)
