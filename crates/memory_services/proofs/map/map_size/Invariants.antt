use Rattle.std.proofs.Common.{◌≡◌, ◌+◌, length}
use Rattle.memory_map.specs.Map.{map_of}
use Rattle.memory_map.specs.Bytes.{all_bytes}
use Rattle.memory_services.proofs.map.map_size.Given as goal

abbrev pub invariant-loop-descriptor : goal.invariant-loop-descriptor
invariant-loop-descriptor l = l.size + length (all_bytes l.cursor) ≡ length (all_bytes (map_of l.pages))

abbrev pub decreases-loop-descriptor : goal.decreases-loop-descriptor
decreases-loop-descriptor l = length l.cursor
