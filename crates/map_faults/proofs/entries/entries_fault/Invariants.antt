use Rattle.std.proofs.Common.{◌≡◌, [], take, drop}
use Rattle.map_faults.specs.Faults.{entries_fault}
use Rattle.map_faults.proofs.entries.entries_fault.Given as goal

abbrev pub invariant-loop-number : goal.invariant-loop-number
invariant-loop-number l = entries_fault l.ground (take l.number l.entries) (drop l.number l.entries) ≡ entries_fault l.ground [] l.entries
