use Rattle.std.proofs.Common.{◌≡◌, ◌++◌, length}
use Rattle.variable_store.specs.Reading.{units_in}
use Rattle.variable_store.proofs.reading.units_in.Given as goal

abbrev pub invariant-loop-pair : goal.invariant-loop-pair
invariant-loop-pair l = l.units.items ++ units_in l.rest ≡ units_in l.bytes

abbrev pub decreases-loop-pair : goal.decreases-loop-pair
decreases-loop-pair l = length l.rest
