use Rattle.std.proofs.Common.{◌≡◌, drop}
use Rattle.map_faults.specs.Faults.{reloc_fault}
use Rattle.map_faults.proofs.images.reloc_fault.Given as goal

abbrev pub invariant-loop-number : goal.invariant-loop-number
invariant-loop-number l = reloc_fault l.entries l.number (drop l.number l.kept) ≡ reloc_fault l.entries 0 l.kept
