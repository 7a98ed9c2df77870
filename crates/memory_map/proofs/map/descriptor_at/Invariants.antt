use Rattle.std.proofs.Common.{◌≡◌, ◌++◌, length}
use Rattle.memory_map.specs.Map.{map_of, descriptor_of}
use Rattle.memory_map.proofs.map.descriptor_at.Given as goal

abbrev pub invariant-loop-descriptor : goal.invariant-loop-descriptor
invariant-loop-descriptor l = descriptor_of l.cursor l.at ≡ descriptor_of (map_of l.map) l.at

abbrev pub decreases-loop-descriptor : goal.decreases-loop-descriptor
decreases-loop-descriptor l = length l.cursor
