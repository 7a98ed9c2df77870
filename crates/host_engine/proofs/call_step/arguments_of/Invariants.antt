use Rattle.std.proofs.Common.{◌≡◌, ◌++◌, drop, map}
use Rattle.host_engine.specs.ScriptRuns.{argument_of}
use Rattle.host_engine.proofs.call_step.arguments_of.Given as goal

abbrev pub invariant-loop-arg : goal.invariant-loop-arg
invariant-loop-arg l = l.values.items ++ map (argument_of l.layout) (drop l.arg-index l.args) ≡ map (argument_of l.layout) l.args
