use Rattle.std.proofs.Common.{◌≡◌, drop}
use Rattle.map_faults.specs.Faults.{unmapped_fault}
use Rattle.map_faults.proofs.entries.unmapped_fault.Given as goal

abbrev pub invariant-loop-number : goal.invariant-loop-number
invariant-loop-number l = unmapped_fault l.entries l.number (drop l.number l.descriptors) ≡ unmapped_fault l.entries 0 l.descriptors
