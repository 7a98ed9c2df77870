use Rattle.std.proofs.Common.{◌≡◌, ◌-◌}
use Rattle.rv_step.specs.Steps.{state_of}
use Rattle.host_engine.specs.FlatMemories.{flat_bytes, flat_rights}
use Rattle.host_engine.specs.Executions.{executed}
use Rattle.host_engine.proofs.ExecutionLemmas.{later}
use Rattle.host_engine.proofs.execution.execute.Given as goal

-- the rest of the execution, counted on, ends as the whole
abbrev pub invariant-loop-steps : goal.invariant-loop-steps
invariant-loop-steps l =
    later l.steps (executed flat_rights (l.bound - l.steps) (state_of l.regs (flat_bytes l.memory.bytes.items)))
    ≡ executed flat_rights l.bound (state_of l.fn.regs (flat_bytes l.fn.memory.bytes.items))
