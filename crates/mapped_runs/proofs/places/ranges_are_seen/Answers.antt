use Rattle.mapped_runs.proofs.SeenLemmas.{offsets_move, pointers_move, ranges_are_seen}
use Rattle.mapped_runs.proofs.places.ranges_are_seen.Goals as goal

pub returns-clause-seen : goal.returns-clause-seen
returns-clause-seen c = ranges_are_seen c.map_is_map.ensures c.entries_are_placed.ensures c.ranges_are_apart.ensures

pub returns-clause-offsets : goal.returns-clause-offsets
returns-clause-offsets c = offsets_move c.map_is_map.ensures c.entries_are_placed.ensures c.ranges_are_apart.ensures

pub returns-clause-pointers : goal.returns-clause-pointers
returns-clause-pointers c = pointers_move c.map_is_map.ensures c.entries_are_placed.ensures c.ranges_are_apart.ensures
