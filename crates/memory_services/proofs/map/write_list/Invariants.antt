use Rattle.std.proofs.Common.{length}
use Rattle.memory_map.specs.Bytes.{all_bytes}
use Rattle.memory_map.specs.Map.{map_of}
use Rattle.address_view.specs.Windows.{see}
use Rattle.memory_services.proofs.MapLemmas.{Listing}
use Rattle.memory_services.proofs.map.write_list.Given as goal

abbrev pub invariant-loop-descriptor : goal.invariant-loop-descriptor
invariant-loop-descriptor l = Listing (see l.view) l.initial.memory l.memory l.at (all_bytes (map_of l.pages)) l.here l.cursor

abbrev pub decreases-loop-descriptor : goal.decreases-loop-descriptor
decreases-loop-descriptor l = length l.cursor
