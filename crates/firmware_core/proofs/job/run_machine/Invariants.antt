use Rattle.firmware_core.specs.Views.{potential}
use Rattle.firmware_core.proofs.SilentLemmas.{Underway}
use Rattle.firmware_core.proofs.job.run_machine.Given as goal

abbrev pub invariant-loop-machine : goal.invariant-loop-machine
invariant-loop-machine l = Underway l.fn.machine l.machine

abbrev pub decreases-loop-machine : goal.decreases-loop-machine
decreases-loop-machine l = potential l.machine
