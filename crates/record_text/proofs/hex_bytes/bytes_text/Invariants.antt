use Rattle.std.proofs.Common.{◌≡◌, ◌++◌, drop}
use Rattle.std.specs.Prelude.{string_bytes}
use Rattle.record_text.specs.HexBytes.{bytes_text}
use Rattle.record_text.proofs.hex_bytes.bytes_text.Given as goal

abbrev pub invariant-loop-byte : goal.invariant-loop-byte
invariant-loop-byte l = string_bytes l.text ++ bytes_text (drop l.byte-index l.bytes) ≡ bytes_text l.bytes
