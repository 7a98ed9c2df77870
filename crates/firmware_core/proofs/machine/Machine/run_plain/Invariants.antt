use Rattle.firmware_core.proofs.SilentLemmas.{Silent}
use Rattle.firmware_core.proofs.machine.Machine.run_plain.Given as goal

abbrev pub invariant-loop-step : goal.invariant-loop-step
invariant-loop-step l = Silent l.fn.self l.self l.step l.fn.end
