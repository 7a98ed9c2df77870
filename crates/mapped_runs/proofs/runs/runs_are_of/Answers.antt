use Rattle.mapped_runs.proofs.RunLemmas.{run_is_of, runs_are_of}
use Rattle.mapped_runs.proofs.runs.runs_are_of.Goals as goal

pub returns-clause-two : goal.returns-clause-two
returns-clause-two c =
    let regions = c.regions_move.ensures in
    runs_are_of c.map_is_map.ensures c.every_is_each.ensures.each c.none_fails_stands.ensures c.ranges_are_seen.ensures.seen regions.apart regions.disjoint c.regions_are_shown.ensures.rights c.ranges_pass.ensures.each

pub returns-clause-one : goal.returns-clause-one
returns-clause-one c =
    let regions = c.regions_move.ensures in
    run_is_of c.map_is_map.ensures c.every_is_each.ensures.each c.none_fails_stands.ensures c.ranges_are_seen.ensures.seen regions.apart regions.disjoint c.regions_are_shown.ensures.rights c.ranges_pass.ensures.each
