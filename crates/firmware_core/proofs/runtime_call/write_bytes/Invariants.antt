use Rattle.std.proofs.Common.{◌≡◌, drop}
use Rattle.guest_memory.specs.Changes.{put_bytes}
use Rattle.firmware_core.proofs.runtime_call.write_bytes.Given as goal

abbrev pub invariant-loop-byte : goal.invariant-loop-byte
invariant-loop-byte l = record {
  so_far : put_bytes l.memory l.here (drop l.byte-index l.bytes) ≡ put_bytes l.fn.memory l.at l.bytes;
  base : l.memory.base ≡ l.fn.memory.base;
  pages : l.memory.pages ≡ l.fn.memory.pages;
}
