use Rattle.mapped_runs.proofs.RegionLemmas.{regions_are_apart, regions_are_disjoint, regions_move}
use Rattle.mapped_runs.proofs.regions.regions_move.Goals as goal

pub returns-clause-as_one : goal.returns-clause-as_one
returns-clause-as_one c = regions_move c.map_is_map.ensures c.every_is_each.ensures.each c.none_fails_stands.ensures c.ranges_are_seen.ensures.seen

pub returns-clause-apart : goal.returns-clause-apart
returns-clause-apart c = regions_are_apart c.map_is_map.ensures c.every_is_each.ensures.each c.none_fails_stands.ensures c.ranges_are_seen.ensures.seen

pub returns-clause-disjoint : goal.returns-clause-disjoint
returns-clause-disjoint c = regions_are_disjoint c.map_is_map.ensures c.every_is_each.ensures.each c.none_fails_stands.ensures c.ranges_are_seen.ensures.seen
