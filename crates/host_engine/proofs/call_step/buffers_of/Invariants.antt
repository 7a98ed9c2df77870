use Rattle.std.proofs.Common.{◌≡◌, ◌++◌, drop, map}
use Rattle.host_engine.specs.ScriptRuns.{buffer_of}
use Rattle.host_engine.proofs.call_step.buffers_of.Given as goal

abbrev pub invariant-loop-buffer : goal.invariant-loop-buffer
invariant-loop-buffer l = l.copies.items ++ map buffer_of (drop l.buffer-index l.buffers) ≡ map buffer_of l.buffers
