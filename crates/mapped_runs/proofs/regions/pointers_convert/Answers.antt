use Rattle.mapped_runs.proofs.ShownLemmas.{pointers_convert}
use Rattle.mapped_runs.proofs.regions.pointers_convert.Goals as goal

pub returns : goal.returns
returns c = pointers_convert c.map_is_map.ensures c.every_is_each.ensures.each c.none_fails_stands.ensures c.ranges_are_seen.ensures.seen c.ranges_are_seen.ensures.pointers
