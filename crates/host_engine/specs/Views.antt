-- What the code's values stand for.
use Rattle.rv_step.specs.Exec.{State}
use Rattle.host_engine.specs.declared.command.Command as code
use Rattle.host_engine.specs.declared.command.Command.TheVariants as commands
use Rattle.host_engine.specs.declared.execution.FlatEnd.{FlatEnd}
use Rattle.host_engine.specs.declared.execution.FlatCause.{FlatCause}
use Rattle.host_engine.specs.declared.execution.FlatCause.TheVariants as causes
use Rattle.host_engine.specs.Executions.{Cause, Bound, Trapped, End}
use Rattle.host_engine.specs.Words.{Command, Help, Version, Flat, Build, Image, Listing, Run}

abbrev pub asked : code.Command → Command
asked commands.Help = Help
asked commands.Version = Version
asked (commands.Flat name bound) = Flat name.now bound
asked (commands.Build name) = Build name.now
asked (commands.Image name) = Image name.now
asked (commands.Listing name) = Listing name.now
asked (commands.Run script) = Run script.now

abbrev pub cause_of : FlatCause → Cause
cause_of causes.Bound = Bound
cause_of (causes.Trap trap) = Trapped trap

-- the end of a run that left this state
abbrev pub end_of : FlatEnd → State → End
end_of end state = record { cause = cause_of end.cause; state = state; steps = end.steps }
