use Rattle.std.proofs.Common.{◌≡◌, ◌≤◌, ◌+◌, ◌-◌, ◌++◌, length, drop}
use Rattle.image_dump.specs.Code.{listing}
use Rattle.image_dump.proofs.code.push_lines.Given as goal

abbrev pub invariant-loop-count : goal.invariant-loop-count
invariant-loop-count l = record {
  within : l.count ≤ length l.code;
  text : l.fn.text.items ++ listing l.at l.code ≡ l.text.items ++ listing (l.at + l.count) (drop l.count l.code);
}

abbrev pub decreases-loop-count : goal.decreases-loop-count
decreases-loop-count l = length l.code - l.count
