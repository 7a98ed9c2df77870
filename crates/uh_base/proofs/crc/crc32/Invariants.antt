use Rattle.std.proofs.Common.{◌≡◌, ◌^◌, ◌-◌, drop}
use Rattle.uh_base.specs.Crc.{after_bytes}
use Rattle.uh_base.proofs.crc.crc32.Given as goal

abbrev pub invariant-loop-byte : goal.invariant-loop-byte
invariant-loop-byte l = after_bytes l.crc (drop l.byte-index l.bytes) ≡ after_bytes (2 ^ 32 - 1) l.bytes
