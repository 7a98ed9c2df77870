use Rattle.std.proofs.Common.{◌≡◌, drop}
use Rattle.firmware_core.specs.RuntimeCalls.{with_buffers}
use Rattle.firmware_core.proofs.runtime_call.write_buffers.Given as goal

abbrev pub invariant-loop-buffer : goal.invariant-loop-buffer
invariant-loop-buffer l = record {
  so_far : with_buffers l.layout l.memory (drop l.buffer-index l.buffers) ≡ with_buffers l.layout l.fn.memory l.buffers;
  base : l.memory.base ≡ l.fn.memory.base;
  pages : l.memory.pages ≡ l.fn.memory.pages;
}
