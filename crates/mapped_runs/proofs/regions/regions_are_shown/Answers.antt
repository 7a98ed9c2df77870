use Rattle.mapped_runs.proofs.ShownLemmas.{rights_stay, view_shows}
use Rattle.mapped_runs.proofs.regions.regions_are_shown.Goals as goal

pub returns-clause-bytes : goal.returns-clause-bytes
returns-clause-bytes c = view_shows c.map_is_map.ensures c.every_is_each.ensures.each c.none_fails_stands.ensures c.ranges_are_seen.ensures.seen c.ranges_are_seen.ensures.pointers

pub returns-clause-rights : goal.returns-clause-rights
returns-clause-rights c = rights_stay c.map_is_map.ensures c.every_is_each.ensures.each c.none_fails_stands.ensures c.ranges_are_seen.ensures.seen c.ranges_are_seen.ensures.pointers
