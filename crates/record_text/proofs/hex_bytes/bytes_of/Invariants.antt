use Rattle.std.proofs.Common.{◌≡◌, ◌≤◌, length, ◌-◌, drop}
use Rattle.record_text.specs.HexBytes.{bytes_from, bytes_of}
use Rattle.record_text.proofs.hex_bytes.bytes_of.Given as goal

abbrev pub invariant-loop-at : goal.invariant-loop-at
invariant-loop-at l = record {
  so_far : bytes_from l.bytes.items (drop l.at l.digits) ≡ bytes_of l.text;
  within : l.at ≤ length l.digits;
}

abbrev pub decreases-loop-at : goal.decreases-loop-at
decreases-loop-at l = length l.digits - l.at
