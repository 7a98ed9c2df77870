use Rattle.std.proofs.Common.{◌≡◌, ◌++◌, length}
use Rattle.memory_map.specs.Map.{map_of, descriptor_of}
use Rattle.memory_map.proofs.map.descriptors.Given as goal

abbrev pub invariant-loop-descriptor : goal.invariant-loop-descriptor
invariant-loop-descriptor l = l.list.items ++ l.cursor ≡ map_of l.map

abbrev pub decreases-loop-descriptor : goal.decreases-loop-descriptor
decreases-loop-descriptor l = length l.cursor
